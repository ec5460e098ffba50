use Rattle.std.proofs.Common.{◌≡◌, ℕ, ◌+◌, ◌<◌, ◌≤◌, false, ◌⊎◌, List, [], ◌∷◌, length, get_or, take, sym, refl, ap, ◌∙◌, subst, inl, inr, arith}
use Rattle.std.proofs.lemmas.List.{get_or-take, get_or_default, length-take-le, ext_get_or}
use Rattle.std.proofs.lemmas.Bool.{cases_eq}
use Rattle.archive.specs.Meaning.{Meaning, Sound}
use Rattle.archive.specs.Sets.{Lawful, moved, distance, Prefers, Before}
use Rattle.masks.specs.Masks.{total}
use Rattle.masks.proofs.Totals.{total_shift}
use Rattle.rows.specs.Rows.{at, Open, Within, Agrees, Dead, far, Narrower, Keeps}
use Rattle.descent.proofs.Alike.{alike_agrees, alike_within, alike_far}
use Rattle.descent.specs.Judged.{Barren}
use Rattle.descent.specs.declared.found.Found.{Found}
use Rattle.filling.specs.Filled.{Means}
use Rattle.filling.specs.declared.Filled.{Filled}
use Rattle.filling.proofs.Filling.{open_offered}
use Rattle.search.specs.Ranked.{At, Leads, Ahead}
use Rattle.search.specs.Chosen.{NoneLawful, Chosen}

distance_total : (ps rs : List ℕ) → length rs ≤ length ps → distance ps rs ≡ total (λ c. moved (get_or ps c 0) (get_or rs c 0)) (length rs)
distance_total [] [] l = refl
distance_total [] (r ∷ rs) l = absurd (omega arith)
distance_total (p ∷ ps) [] l = refl
distance_total (p ∷ ps) (r ∷ rs) l =
    ap (λ (x : ℕ). moved p r + x) (distance_total ps rs (omega arith)) ∙ sym (total_shift (λ c. moved (get_or (p ∷ ps) c 0) (get_or (r ∷ rs) c 0)) (length rs))

-- the tables say of sets what the archive means
module _ (m : Meaning) (sound : Sound m) (pins : List ℕ) (pins_long : length pins ≡ 64) (f : Filled) (t : Means m pins f) where
  same_far : (s : ℕ → ℕ) → far f.problem s ≡ total (λ c. moved (get_or pins c 0) (s c)) m.components
  same_far s =
      ap (λ (x : List ℕ). total (λ c. moved (get_or x c 0) (s c)) f.problem.components) t.pins_are ∙ ap (total (λ c. moved (get_or pins c 0) (s c))) t.components

  far_distance : (u : List ℕ) → length u ≡ m.components → far f.problem (at u) ≡ distance pins u
  far_distance u e =
      same_far (at u) ∙ ap (total (λ c. moved (get_or pins c 0) (at u c))) (sym e) ∙ sym (distance_total pins u (omega (arith, sound.few_components)))

  -- a lawful set is within the opening row, and agrees
  lawful_within : (u : List ℕ) → Lawful m u → Within f.problem.components f.opens (at u)
  lawful_within u h c l = let lt : c < m.components = omega (arith, t.components) in (t.opens c lt (at u c)).1 (h.unbarred c lt)

  no_clash : (u : List ℕ) → Lawful m u → (a b : ℕ) → a < m.components → b < m.components → m.clash a (at u a) b (at u b) ≡ false
  no_clash u h a b la lb =
      elim (cases_eq a b) [
        | inl e ↦ subst (λ (x : ℕ). m.clash a (at u a) x (at u x) ≡ false) e (sound.own a (at u a) (at u a) (h.offered a la) (h.offered a la))
        | inr ne ↦ h.suited a b la lb ne
      ]

  lawful_agrees : (u : List ℕ) → Lawful m u → Agrees f.problem (at u)
  lawful_agrees u h a b la lb =
      let la' : a < m.components = omega (arith, t.components) in
      let lb' : b < m.components = omega (arith, t.components) in
      (t.suits a (at u a) la' (lawful_within u h a la) b lb' (at u b) (lawful_within u h b lb)).1 (no_clash u h a b la' lb')

  -- and what is within it, and agrees, is lawful
  lawful_from : (u : List ℕ) → length u ≡ m.components → Agrees f.problem (at u) → Within f.problem.components f.opens (at u) → Lawful m u
  lawful_from u e a w =
      let within : (c : ℕ) → c < m.components → Open f.opens c (at u c) = λ c l. w c (omega (arith, t.components)) in
      record {
        whole = e;
        offered = λ c l. open_offered m sound f.opens t.opens c (at u c) l (within c l);
        unbarred = λ c l. (t.opens c l (at u c)).0 (within c l);
        suited = λ x y lx ly ne. (t.suits x (at u x) lx (within x lx) y ly (at u y) (within y ly)).0 (a x y (omega (arith, t.components)) (omega (arith, t.components)));
      }

  pub dead_none : Dead f.problem f.opens → NoneLawful m
  dead_none dead u h = dead (at u) (lawful_agrees u h) (lawful_within u h)

  -- after a scan the sets are the same
  module _ (row : List ℕ) (keeps : Keeps f.problem f.opens row) (narrower : Narrower f.problem.components row f.opens) where
    row_within : (u : List ℕ) → Lawful m u → Within f.problem.components row (at u)
    row_within u h = keeps (at u) (lawful_agrees u h) (lawful_within u h)

    pub row_dead_none : Dead f.problem row → NoneLawful m
    row_dead_none dead u h = dead (at u) (lawful_agrees u h) (row_within u h)

    lawful_at : (u : List ℕ) → Lawful m u → (d : ℕ) → distance pins u ≡ d → At f.problem row d (at u)
    lawful_at u h d e = record {
      agrees = lawful_agrees u h;
      within = row_within u h;
      far_is = far_distance u h.whole ∙ e;
    }

    module _ (d : ℕ) (barren : Barren f.problem row d) (s : Found) (s_long : length s.set ≡ 64) (leads : Leads f.problem row d s) where
      n≤ : m.components ≤ length s.set
      n≤ = omega (arith, sound.few_components)

      cut_long : length (take m.components s.set) ≡ m.components
      cut_long = length-take-le m.components s.set n≤

      cut_at : (c : ℕ) → c < m.components → at (take m.components s.set) c ≡ at s.set c
      cut_at c l = get_or-take m.components s.set c 0 l

      cut_same : (c : ℕ) → c < f.problem.components → at s.set c ≡ at (take m.components s.set) c
      cut_same c l = sym (cut_at c (omega (arith, t.components)))

      cut_lawful : Lawful m (take m.components s.set)
      cut_lawful =
          lawful_from (take m.components s.set) cut_long
          (alike_agrees f.problem (at s.set) (at (take m.components s.set)) cut_same leads.stands.at_distance.agrees)
          (alike_within f.problem.components f.opens (at s.set) (at (take m.components s.set)) cut_same
          (λ c l. narrower c (at s.set c) l (leads.stands.at_distance.within c l)))

      cut_distance : distance pins (take m.components s.set) ≡ s.distance
      cut_distance =
          sym (far_distance (take m.components s.set) cut_long)
          ∙ sym (alike_far f.problem (at s.set) (at (take m.components s.set)) cut_same) ∙ leads.stands.at_distance.far_is

      cut_first : (u : List ℕ) → Lawful m u → ((c : ℕ) → c < f.problem.components → at s.set c ≡ at u c) ⊎ Ahead f.problem f.problem.components (at s.set) (at u)
          → (take m.components s.set ≡ u) ⊎ Before pins (take m.components s.set) u
      cut_first u h (inl e) =
          inl (ext_get_or 0 (take m.components s.set) u (cut_long ∙ sym h.whole) (λ i l. let lt : i < m.components = omega (arith, cut_long) in cut_at i lt ∙ e i (omega (arith, t.components))))
      cut_first u h (inr a) =
          let lt : a.place < m.components = omega (arith, t.components, a.within) in
          inr (record {
            at = a.place;
            within = omega (arith, cut_long);
            alike = λ j b. cut_at j (omega arith) ∙ a.alike j b;
            prefers = subst (λ (x : ℕ). Prefers (get_or pins a.place 255) x (at u a.place)) (sym (cut_at a.place lt))
                (subst (λ (x : ℕ). Prefers x (at s.set a.place) (at u a.place))
                (ap (λ (x : List ℕ). get_or x a.place 0) t.pins_are ∙ get_or_default pins a.place 0 255 (omega (arith, sound.few_components))) a.prefers);
          })

      pub chosen : Chosen m pins s
      chosen = record {
        first_least = record {
          lawful = cut_lawful;
          least = λ u h. omega (arith, cut_distance, leads.same, barren (at u) (lawful_agrees u h) (row_within u h), far_distance u h.whole);
          first = λ u h same. cut_first u h (leads.leads (at u) (lawful_at u h d (same ∙ cut_distance ∙ leads.same)));
        };
        distance_is = cut_distance;
        rest = λ c l. leads.stands.rest c (omega (arith, t.components));
      }

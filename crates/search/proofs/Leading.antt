use Rattle.std.proofs.Common.{◌≡◌, ℕ, ◌+◌, ◌<◌, ◌≤◌, ◌⊎◌, List, length, get_or, set, sym, refl, ◌∙◌, subst, inl, inr, arith}
use Rattle.std.proofs.lemmas.Bool.{cases_eq}
use Rattle.archive.specs.Sets.{Prefers}
use Rattle.masks.specs.Masks.{Has, Only}
use Rattle.rows.specs.Rows.{at, Open, Narrower, Keeps}
use Rattle.rows.specs.declared.problem.Problem.{Problem}
use Rattle.rows.proofs.Rows.{at_same, set_narrower, set_within}
use Rattle.descent.specs.declared.found.Found.{Found}
use Rattle.search.specs.Ranked.{At, Stands, Settles, Ahead}

-- the first c components are fixed in the row, as the best set has them; the other sets at d are in the row or come later
pub record Fixed (p : Problem) (first : List ℕ) (d c : ℕ) (row : List ℕ) (best : Found) : Type 0 where
  pub long : length row ≡ 64
  pub narrow : Narrower p.components row first
  pub stands : Stands p row best
  pub same : best.distance ≡ d
  pub fixed : (k : ℕ) → k < c → (j : ℕ) → Open row k j → j ≡ at best.set k
  pub leads : (t : ℕ → ℕ) → At p first d t → At p row d t ⊎ Ahead p c (at best.set) t

module _ (p : Problem) (first : List ℕ) (d c : ℕ) (row : List ℕ) (best : Found) (f : Fixed p first d c row best) (inside : c < p.components)
    (new : Found) (settles : Settles p row best.distance c new)
    (m : ℕ) (only : Only 32 (at new.set c) m)
    (after : List ℕ) (after_long : length after ≡ 64) (narrower : Narrower p.components after (set row c m)) (keeps : Keeps p (set row c m) after) where
  room : p.components ≤ length row
  room = omega (arith, f.long, p.few)

  -- the new set has what was fixed
  same_before : (k : ℕ) → k < c → at new.set k ≡ at best.set k
  same_before k l = f.fixed k l (at new.set k) (settles.stands.at_distance.within k (omega arith))

  sub : (j : ℕ) → Has m j → Open row c j
  sub j h = subst (Open row c) (sym (only.alone j h)) (settles.stands.at_distance.within c inside)

  set_narrow : Narrower p.components (set row c m) row
  set_narrow = set_narrower p.components row c m inside room sub

  at_best : (t : ℕ → ℕ) → At p row d t → At p row best.distance t
  at_best t h = record { agrees = h.agrees; within = h.within; far_is = h.far_is ∙ sym f.same }

  -- a set at d with the settled release stays
  stays : (e : ℕ) (t : ℕ → ℕ) → At p row e t → at new.set c ≡ t c → At p after e t
  stays e t h q = record {
    agrees = h.agrees;
    within = keeps t h.agrees (set_within p.components row c m inside room t h.within (subst (Has m) q (only.has settles.fits)));
    far_is = h.far_is;
  }

  ahead_here : (t : ℕ → ℕ) → At p row d t → Prefers (get_or p.pins c 0) (at new.set c) (t c) → Ahead p (c + 1) (at new.set) t
  ahead_here t h q = record {
    place = c;
    within = omega arith;
    alike = λ k l. same_before k l ∙ sym (f.fixed k l (t k) (h.within k (omega arith)));
    prefers = q;
  }

  ahead_before : (t : ℕ → ℕ) → Ahead p c (at best.set) t → Ahead p (c + 1) (at new.set) t
  ahead_before t a = record {
    place = a.place;
    within = omega (arith, a.within);
    alike = λ k l. same_before k (omega (arith, a.within)) ∙ a.alike k l;
    prefers = subst (λ (x : ℕ). Prefers (get_or p.pins a.place 0) x (t a.place)) (sym (same_before a.place a.within)) a.prefers;
  }

  pub fix : Fixed p first d (c + 1) after new
  fix = record {
    long = after_long;
    narrow = λ k j l o. f.narrow k j l (set_narrow k j l (narrower k j l o));
    stands = record {
      at_distance = stays new.distance (at new.set) settles.stands.at_distance refl;
      rest = settles.stands.rest;
    };
    same = settles.same ∙ f.same;
    fixed = λ k l j o. elim (cases_eq k c) [
      | inl e ↦
          subst (λ (x : ℕ). j ≡ at new.set x) (sym e)
          (only.alone j (subst (λ (x : ℕ). Has x j) (at_same p.components row c m inside room) (narrower c j inside (subst (λ (x : ℕ). Open after x j) e o))))
      | inr ne ↦ let lt : k < c = omega (arith, ne) in
          f.fixed k lt j (set_narrow k j (omega arith) (narrower k j (omega arith) o)) ∙ sym (same_before k lt)
    ];
    leads = λ t h. step t (f.leads t h);
  } where
    chose : (t : ℕ → ℕ) → At p row d t → (at new.set c ≡ t c) ⊎ Prefers (get_or p.pins c 0) (at new.set c) (t c) → At p after d t ⊎ Ahead p (c + 1) (at new.set) t
    chose t h (inl e) = inl (stays d t h e)
    chose t h (inr q) = inr (ahead_here t h q)

    step : (t : ℕ → ℕ) → At p row d t ⊎ Ahead p c (at best.set) t → At p after d t ⊎ Ahead p (c + 1) (at new.set) t
    step t (inl h) = chose t h (settles.best t (at_best t h))
    step t (inr a) = inr (ahead_before t a)

use Rattle.std.proofs.Common.{◌≡◌, ℕ, ◌+◌, ◌<◌, ◌≤◌, ◌⊎◌, List, length, get_or, set, sym, refl, subst, arith}
use Rattle.archive.specs.Sets.{Prefers}
use Rattle.masks.specs.Masks.{Has, Only, Without}
use Rattle.masks.proofs.Words.{without_was, without_stays}
use Rattle.rows.specs.Rows.{at, Open, Within}
use Rattle.rows.specs.declared.problem.Problem.{Problem}
use Rattle.rows.specs.Preference.{Preferred}
use Rattle.rows.proofs.Rows.{at_same, set_narrower, set_within}
use Rattle.descent.specs.Judged.{Barren, Nearer}
use Rattle.descent.specs.declared.found.Found.{Found}
use Rattle.search.specs.Ranked.{At, Least, Settles}

-- the releases of c that have been tried are in no set at the distance d
pub record Untried (p : Problem) (row : List ℕ) (d c left : ℕ) : Type 0 where
  pub each : (t : ℕ → ℕ) → At p row d t → Has left (t c)
  pub still : (j : ℕ) → Has left j → Open row c j

module _ (p : Problem) (row : List ℕ) (long : length row ≡ 64) (c : ℕ) (inside : c < p.components) (f : Found) (least : Least p row f)
    (left : ℕ) (u : Untried p row f.distance c left) (r : ℕ) (pref : Preferred (get_or p.pins c 0) left r) where
  room : p.components ≤ length row
  room = omega (arith, long, p.few)

  top : (t : ℕ → ℕ) → At p row f.distance t → (r ≡ t c) ⊎ Prefers (get_or p.pins c 0) r (t c)
  top t h = pref.first (t c) (u.each t h)

  -- the set at hand has the most preferred release
  pub at_hand : at f.set c ≡ r → Settles p row f.distance c f
  at_hand e = record {
    stands = least.stands;
    same = refl;
    fits = omega (arith, e, pref.fits);
    best = λ t h. subst (λ (x : ℕ). (x ≡ t c) ⊎ Prefers (get_or p.pins c 0) x (t c)) (sym e) (top t h);
  }

  module _ (m : ℕ) (only : Only 32 r m) where
    sub : (j : ℕ) → Has m j → Open row c j
    sub j h = subst (Open row c) (sym (only.alone j h)) (u.still r pref.has)

    -- a set with the release was found
    pub found_one : (s : Found) → Nearer p (set row c m) (f.distance + 1) s → Settles p row f.distance c s
    found_one s near =
        let within : Within p.components row (at s.set) = λ k l. set_narrower p.components row c m inside room sub k (at s.set k) l (near.within k l) in
        let same : s.distance ≡ f.distance = omega (arith, near.far_is, near.under, least.least (at s.set) near.agrees within) in
        let here : at s.set c ≡ r =
        only.alone (at s.set c) (subst (λ (x : ℕ). Has x (at s.set c)) (at_same p.components row c m inside room) (near.within c inside)) in
        record {
          stands = record { at_distance = record { agrees = near.agrees; within = within; far_is = near.far_is }; rest = near.rest };
          same = same;
          fits = omega (arith, here, pref.fits);
          best = λ t h. subst (λ (x : ℕ). (x ≡ t c) ⊎ Prefers (get_or p.pins c 0) x (t c)) (sym here) (top t h);
        }

    -- there is none
    pub untried_less : Barren p (set row c m) (f.distance + 1) → (rest : ℕ) → Without left r rest → Untried p row f.distance c rest
    untried_less barren rest w = record {
      each = λ t h. without_stays left r rest w (t c) (λ e. lacks t h e) (u.each t h);
      still = λ j h. u.still j (without_was left r rest w j h);
    } where
      lacks : (t : ℕ → ℕ) → At p row f.distance t → t c ≡ r → ⊥
      lacks t h e =
          absurd (omega (
            arith,
            h.far_is,
            barren t h.agrees (set_within p.components row c m inside room t h.within (subst (Has m) (sym e) (only.has pref.fits))),
          ))

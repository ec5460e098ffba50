use Rattle.std.proofs.Common.{◌≡◌, ℕ, ◌+◌, ◌≤◌, Bool, true, false, cond, eqb, List, get_or, Some, None, Option, sym, subst, arith, MatchOption}
use Rattle.archive.specs.Sets.{moved}
use Rattle.masks.proofs.Totals.{total_le}
use Rattle.rows.specs.Rows.{Dead, far}
use Rattle.rows.specs.declared.problem.Problem.{Problem}
use Rattle.descent.specs.Judged.{Barren}
use Rattle.descent.specs.declared.found.Found.{Found}
use Rattle.search.specs.Ranked.{Stands, Least}

moved_le : (pin r : ℕ) → moved pin r ≤ 1
moved_le pin r = go (eqb pin 255) (eqb pin r) where
  go : (a b : Bool) → cond a 0 (cond b 0 1) ≤ 1
  go true b = omega arith
  go false true = omega arith
  go false false = omega arith

-- no set moves more pins than there are components
pub far_few : (p : Problem) (s : ℕ → ℕ) → far p s ≤ p.components
far_few p s = omega (arith, total_le (λ c. moved (get_or p.pins c 0) (s c)) p.components 1 (λ c _. moved_le (get_or p.pins c 0) (s c)))

-- ---- the least distance: the limit is that of the best so far

abbrev pub Lowered : Problem → List ℕ → ℕ → Option Found → Type 0
Lowered p row limit best = MatchOption best (limit ≡ p.components + 1) (λ f. Stands p row f × (f.distance ≡ limit))

pub lowest : (p : Problem) (row : List ℕ) (limit : ℕ) (best : Option Found) → Lowered p row limit best → Barren p row limit → MatchOption best (Dead p row) (Least p row)
lowest p row limit None e barren = λ s agrees within. absurd (omega (arith, e, barren s agrees within, far_few p s))
lowest p row limit (Some f) h barren = record { stands = h.0; least = subst (Barren p row) (sym h.1) barren }

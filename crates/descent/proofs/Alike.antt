use Rattle.std.proofs.Common.{◌≡◌, ℕ, ◌^◌, ◌<◌, Bool, true, false, List, length, get_or, Decides, MatchBool, sym, refl, ap, ◌∙◌, subst, arith}
use Rattle.std.specs.List.{AllWithin, HoldsAt, range_with_len}
use Rattle.std.proofs.lemmas.List.FromFn.{length-range_with_len, get_or-range_with_len}
use Rattle.std.proofs.lemmas.Bool.{false≢true}
use Rattle.archive.specs.Sets.{moved}
use Rattle.masks.proofs.Sizes.{size_one}
use Rattle.masks.proofs.Totals.{total_same}
use Rattle.rows.specs.Rows.{at, Open, Within, Agrees, far}
use Rattle.rows.specs.Suits.{Suits}
use Rattle.rows.specs.declared.problem.Problem.{Problem}
use Rattle.descent.specs.Judged.{Settled, Picked}

-- two sets are the same on the first n components
abbrev pub Alike : ℕ → (ℕ → ℕ) → (ℕ → ℕ) → Type 0
Alike n s t = (c : ℕ) → c < n → s c ≡ t c

pub alike_within : (n : ℕ) (row : List ℕ) (s t : ℕ → ℕ) → Alike n s t → Within n row s → Within n row t
alike_within n row s t e h c l = subst (Open row c) (e c l) (h c l)

pub alike_agrees : (p : Problem) (s t : ℕ → ℕ) → Alike p.components s t → Agrees p s → Agrees p t
alike_agrees p s t e h a b la lb =
    subst (λ (x : ℕ). Suits p.suits a x b (t b)) (e a la) (subst (Suits p.suits a (s a) b) (e b lb) (h a b la lb))

pub alike_far : (p : Problem) (s t : ℕ → ℕ) → Alike p.components s t → far p s ≡ far p t
alike_far p s t e =
    total_same (λ c. moved (get_or p.pins c 0) (s c)) (λ c. moved (get_or p.pins c 0) (t c)) p.components (λ c l. ap (λ (x : ℕ). moved (get_or p.pins c 0) x) (e c l))

-- a settled row holds one set
pub sole : (p : Problem) (row set : List ℕ) → ((c : ℕ) → get_or row c 0 < 2 ^ 32) → Settled p row → Picked p row set → (s : ℕ → ℕ) → Within p.components row s → Alike p.components s (at set)
sole p row set fits settled picked s within c l =
    size_one 32 (get_or row c 0) (s c) (at set c) (fits c) (settled c l) (within c l) (picked.within c l)

-- the choice of a suits each
abbrev pub SuitsEach : Problem → List ℕ → ℕ → Type 0
SuitsEach p set a = (b : ℕ) → b < p.components → Suits p.suits a (at set a) b (at set b)

-- whether all do, from the answers at each component
pub each_suits : (p : Problem) (set : List ℕ) (r : Bool)
    → MatchBool r (AllWithin (SuitsEach p set) (range_with_len 0 p.components) 0 (length (range_with_len 0 p.components)))
    ((k : ℕ) × (k < length (range_with_len 0 p.components)) × HoldsAt (λ a. SuitsEach p set a → ⊥) (range_with_len 0 p.components) k)
    → Decides r (Agrees p (at set))
each_suits p set true h = (λ _ a b la lb. subst (SuitsEach p set) (get_or-range_with_len 0 p.components a 0 la ∙ omega arith) (h a 0 (omega arith) (omega (arith, length-range_with_len 0 p.components))) b lb, λ _. refl)
each_suits p set false (k, l, unsuited) =
    let inside : k < p.components = omega (arith, length-range_with_len 0 p.components) in
    (λ e. absurd (false≢true e), λ agrees. absurd (unsuited 0 (subst (SuitsEach p set) (sym (get_or-range_with_len 0 p.components k 0 inside ∙ omega arith)) (λ b lb. agrees k b inside lb))))

use Rattle.std.proofs.Common.{◌≡◌, ℕ, ◌<◌, ◌≤◌, Bool, true, false, ltb, Some, None, Option, IfSome, IsSomeAnd, MatchOption, refl}
use Rattle.std.specs.Bool.{then_some}
use Rattle.std.proofs.lemmas.Bool.{ltb-true, ltb-false}

-- what is said of an option, at its value
pub is_some_and : {A : Type 0} (o : Option A) (P : A → Type 0) → IsSomeAnd o P → (x : A) × (o ≡ Some x) × P x
is_some_and None P h = absurd h
is_some_and (Some x) P h = (x, refl, h)

pub if_some : {A : Type 0} (o : Option A) (P : A → Type 0) (x : A) → IfSome o P → o ≡ Some x → P x
if_some o P x h e = rw e at h

-- what is taken where m is below n
pub if_less : {A : Type 0} (m n : ℕ) (x : A) (P : A → Type 0) (Q : Type 0) → (m < n → P x) → (n ≤ m → Q) → MatchOption (then_some (ltb m n) x) Q P
if_less m n x P Q below above = at (ltb m n) refl where
  at : (b : Bool) → ltb m n ≡ b → MatchOption (then_some b x) Q P
  at true e = below (ltb-true m n e)
  at false e = above (ltb-false m n e)

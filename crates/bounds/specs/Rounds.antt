use Rattle.std.specs.Prelude.{◌≡◌, ℕ, suc, ◌<◌, List, Option, MatchOption}
use Rattle.masks.specs.Masks.{Without, size}
use Rattle.bounds.specs.Pairing.{pairs}

-- rest is m without a, and without its partner where it has one
abbrev pub Taken : ℕ → ℕ → Option ℕ → ℕ → Type 0
Taken m a other rest = MatchOption other (Without m a rest) (λ b. (alone : ℕ) × Without m a alone × Without alone b rest)

-- a round counts one group, and leaves fewer pins
pub record Round (rows : List ℕ) (left rest : ℕ) : Type 0 where
  pub counts : pairs rows left ≡ suc (pairs rows rest)
  pub fewer : size 64 rest < size 64 left

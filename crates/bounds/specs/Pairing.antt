use Rattle.std.specs.Prelude.{ℕ, zero, suc, Bool, cond, not, ◌&&◌, ◌||◌, List, ◌==◌, slice_index}
use Rattle.masks.specs.Masks.{bit}
use Rattle.bounds.specs.Lowest.{lowest}

-- a set of pins is a test: here the set that a word holds
abbrev pub members : ℕ → ℕ → Bool
members m c = bit m c == 1

-- either row marks the other
abbrev pub clashes : List ℕ → ℕ → ℕ → Bool
clashes rows a b = members (slice_index rows a) b || members (slice_index rows b) a

-- a set without a
abbrev pub without : (ℕ → Bool) → ℕ → ℕ → Bool
without left a c = left c && not (c == a)

-- the lowest pin of a set, or 64, which is no pin
abbrev pub first : (ℕ → Bool) → ℕ
first left = lowest left 64

-- the other pins that clash with a
abbrev pub rivals : List ℕ → (ℕ → Bool) → ℕ → ℕ → Bool
rivals rows left a b = without left a b && clashes rows a b

-- the lowest of them, or 64
abbrev pub partner : List ℕ → (ℕ → Bool) → ℕ → ℕ
partner rows left a = first (rivals rows left a)

-- what is left once a is taken together with its partner, or alone
abbrev pub remaining : List ℕ → (ℕ → Bool) → ℕ → ℕ → Bool
remaining rows left a = without (without left a) (partner rows left a)

-- how many groups k rounds make: a round takes the lowest pin that is left, with its partner, until none is left
unfoldable pub groups : List ℕ → (ℕ → Bool) → ℕ → ℕ
groups rows left zero = 0
groups rows left (suc k) = cond (first left == 64) 0 (suc (groups rows (remaining rows left (first left)) k))

-- no more than 64 rounds are ever needed, since each takes a pin
unfoldable pub pairs : List ℕ → ℕ → ℕ
pairs rows opens = groups rows (members opens) 64

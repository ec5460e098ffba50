use Rattle.std.specs.Prelude.{◌≡◌, ℕ, ◌+◌, ◌<◌, ◌≤◌, false, cond, ◌≢◌, ◌⊎◌, List, [], ◌∷◌, length, ◌==◌, slice_index, slice_index_or}
use Rattle.archive.specs.Meaning.{Meaning, Offered}

-- a set is the list of its releases, one for each component; it is lawful where it has an offered release for every
-- component, none of its choices is barred and no two of them are a barred pair
pub record Lawful (m : Meaning) (s : List ℕ) : Type 0 where
  pub whole : length s ≡ m.components
  pub offered : (c : ℕ) → c < m.components → Offered m c (slice_index s c)
  pub unbarred : (c : ℕ) → c < m.components → m.withdrawn c (slice_index s c) ≡ false
  pub suited : (a b : ℕ) → a < m.components → b < m.components → a ≢ b → m.clash a (slice_index s a) b (slice_index s b) ≡ false

-- 1 where a pin stands and is not the release; the entry 255 is no pin
abbrev pub moved : ℕ → ℕ → ℕ
moved p r = cond (p == 255) 0 (cond (p == r) 0 1)

-- how many pins the set moves: pins first, then the set
abbrev pub distance : List ℕ → List ℕ → ℕ
distance [] rs = 0
distance (p ∷ ps) [] = 0
distance (p ∷ ps) (r ∷ rs) = moved p r + distance ps rs

-- a component with the pin p prefers the release x to y: its pin first, then the newer
abbrev pub Prefers : ℕ → ℕ → ℕ → Type 0
Prefers p x y = (x ≢ y) × ((x ≡ p) ⊎ ((y ≢ p) × (y < x)))

-- s comes before t: at the lowest component in which they differ, its release is preferred
pub record Before (pins s t : List ℕ) : Type 0 where
  pub at : ℕ
  pub within : at < length s
  pub alike : (k : ℕ) → k < at → slice_index s k ≡ slice_index t k
  pub prefers : Prefers (slice_index_or pins at 255) (slice_index s at) (slice_index t at)

-- a lawful set that moves the fewest pins, and of these the first
pub record FirstLeast (m : Meaning) (pins s : List ℕ) : Type 0 where
  pub lawful : Lawful m s
  pub least : (t : List ℕ) → Lawful m t → distance pins s ≤ distance pins t
  pub first : (t : List ℕ) → Lawful m t → distance pins t ≡ distance pins s → (s ≡ t) ⊎ Before pins s t

-- of two sets of one length, the one comes before the other unless they are the same
abbrev pub OrderIsTotal : Type 0
OrderIsTotal = (pins s t : List ℕ) → length s ≡ length t → (s ≡ t) ⊎ (Before pins s t ⊎ Before pins t s)

-- and then the other does not come before the one
abbrev pub OrderIsStrict : Type 0
OrderIsStrict = (pins s t : List ℕ) → Before pins s t → Before pins t s → ⊥

-- so there is at most one first least set
abbrev pub FirstLeastIsUnique : Type 0
FirstLeastIsUnique = (m : Meaning) (pins s t : List ℕ) → FirstLeast m pins s → FirstLeast m pins t → s ≡ t

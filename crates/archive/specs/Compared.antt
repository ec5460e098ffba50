use Rattle.std.specs.Prelude.{◌≡◌, ℕ, ◌<◌, ◌≢◌, List, length, Some, None, Option, slice_index}
use Rattle.std.specs.declared.cmp.Ordering.{Ordering}
use Rattle.std.specs.Ordering.{MatchOrdering}
use Rattle.archive.specs.Sets.{Before}

-- how two sets compare: less where the one comes before the other, and not at all where they differ in length
abbrev pub Compared : List ℕ → List ℕ → List ℕ → Option Ordering → Type 0
Compared pins s t None = length s ≢ length t
Compared pins s t (Some o) = (length s ≡ length t) × MatchOrdering o (Before pins s t) (s ≡ t) (Before pins t s)

-- the first place at which two sets of one length differ
abbrev pub FirstDifference : List ℕ → List ℕ → Option ℕ → Type 0
FirstDifference s t None = (i : ℕ) → i < length s → slice_index s i ≡ slice_index t i
FirstDifference s t (Some k) = (k < length s) × (slice_index s k ≢ slice_index t k) × ((i : ℕ) → i < k → slice_index s i ≡ slice_index t i)

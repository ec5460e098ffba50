use Rattle.std.specs.Prelude.{◌≡◌, ℕ, ◌<◌, false, List, slice_index}
use Rattle.archive.specs.Meaning.{Meaning}

-- the set's choice of component a is barred neither alone nor with that of a later component
pub record Suits (m : Meaning) (s : List ℕ) (a : ℕ) : Type 0 where
  pub unbarred : m.withdrawn a (slice_index s a) ≡ false
  pub suited : (b : ℕ) → a < b → b < m.components → m.clash a (slice_index s a) b (slice_index s b) ≡ false

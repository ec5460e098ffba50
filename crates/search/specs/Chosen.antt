use Rattle.std.specs.Prelude.{◌≡◌, ℕ, ◌≤◌, List, take, slice_index}
use Rattle.archive.specs.Meaning.{Meaning}
use Rattle.archive.specs.Sets.{Lawful, FirstLeast, distance}
use Rattle.descent.specs.declared.found.Found.{Found}

-- no set is lawful
abbrev pub NoneLawful : Meaning → Type 0
NoneLawful m = (t : List ℕ) → Lawful m t → ⊥

-- the entries of the components are the first of the lawful sets of least distance, with that distance; the others are 0
pub record Chosen (m : Meaning) (pins : List ℕ) (f : Found) : Type 0 where
  pub first_least : FirstLeast m pins (take m.components f.set)
  pub distance_is : distance pins (take m.components f.set) ≡ f.distance
  pub rest : (c : ℕ) → m.components ≤ c → slice_index f.set c ≡ 0

use Rattle.std.specs.Prelude.{ℕ, ◌<◌, List, length}
use Rattle.std.specs.List.{HoldsAt}

-- some row has the property
abbrev pub SomeRow : {X : Type 0} → (X → Type 0) → List X → Type 0
SomeRow P xs = (k : ℕ) × (k < length xs) × HoldsAt P xs k

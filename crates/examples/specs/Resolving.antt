use Rattle.std.specs.Prelude.{◌≡◌, ℕ, ◌-◌, List, ◌++◌, length, replicate}
use Rattle.archive.specs.Meaning.{Meaning}
use Rattle.archive.specs.Sets.{Lawful, FirstLeast, distance}
use Rattle.indexes.specs.Pairs.{pair_meaning}
use Rattle.indexes.specs.Ranges.{range_meaning}
use Rattle.indexes.specs.declared.components.ComponentRow.{ComponentRow}
use Rattle.indexes.specs.declared.pair.PairRow.{PairRow}
use Rattle.indexes.specs.declared.range.NeedsRow.{NeedsRow}

-- what resolving comes to: no set is lawful, or a set with the number of pins that it moves
pub data Outcome : Type 0 where
  no_lawful_set : Outcome
  gives : List ℕ → ℕ → Outcome

abbrev pub ComesTo : Meaning → List ℕ → Outcome → Type 0
ComesTo m pins no_lawful_set = (s : List ℕ) → Lawful m s → ⊥
ComesTo m pins (gives s moves) = FirstLeast m pins s × (distance pins s ≡ moves)

-- one archive, by ranges and by pairs, with its pins and what they come to
pub record Resolving : Type 0 where
  pub components : List ComponentRow
  pub needs : List NeedsRow
  pub pairs : List PairRow
  pub pins : List ℕ
  pub outcome : Outcome

-- pins are kept for 64 components; past those that an example names there is none
abbrev pub all_pins : List ℕ → List ℕ
all_pins pins = pins ++ replicate (64 - length pins) 255

-- both archives come to the outcome
abbrev pub Resolves : Resolving → Type 0
Resolves x = ComesTo (range_meaning x.components x.needs) (all_pins x.pins) x.outcome × ComesTo (pair_meaning x.components x.pairs) (all_pins x.pins) x.outcome

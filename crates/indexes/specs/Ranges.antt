use Rattle.std.specs.Prelude.{◌≡◌, ℕ, ◌≤◌, Bool, not, ◌&&◌, ◌||◌, ◌≢◌, ◌⊎◌, List, length, take, Decides, ◌==◌, nat_le, nat_lt}
use Rattle.archive.specs.Choices.{names, Names}
use Rattle.archive.specs.Meaning.{Meaning, Offered}
use Rattle.tables.specs.Any.{SomeRow}
use Rattle.indexes.specs.Components.{offers, by_rows}
use Rattle.indexes.specs.declared.components.ComponentRow.{ComponentRow}
use Rattle.indexes.specs.declared.range.NeedsRow.{NeedsRow}
use Rattle.indexes.specs.declared.index.Index.{Index}
use Rattle.tables.specs.Held.{held}

-- the row counts: its choice and the other component are offered, and are of two components
abbrev pub needs_count : List ComponentRow → NeedsRow → Bool
needs_count rows n = offers rows n.choice.component n.choice.release && (nat_lt n.other (length rows) && not (n.choice.component == n.other))

-- the row is one of a:i, names the component b and leaves the release j outside
abbrev pub leaves_out : NeedsRow → ℕ → ℕ → ℕ → ℕ → Bool
leaves_out n a i b j = names n.choice a i && (n.other == b && not (nat_le n.low j && nat_le j n.high))

-- a row of either choice leaves the other out
abbrev pub parts : ℕ → ℕ → ℕ → ℕ → NeedsRow → Bool
parts a i b j n = leaves_out n a i b j || leaves_out n b j a i

-- what a range index means that holds these rows
abbrev pub by_ranges : List ComponentRow → List NeedsRow → Meaning
by_ranges = by_rows needs_count parts

abbrev pub range_means : {n : ℕ} → Index NeedsRow n → Meaning
range_means x = by_ranges (held x.components.rows) (held x.rows)

-- what a range index means that is made from these rows: 64 component rows and 512 needs rows count
abbrev pub range_meaning : List ComponentRow → List NeedsRow → Meaning
range_meaning rows needs = by_ranges (take 64 rows) (take 512 needs)

-- the row is one of a:i, names the component b and leaves the release j outside
abbrev pub LeavesOut : NeedsRow → ℕ → ℕ → ℕ → ℕ → Type 0
LeavesOut n a i b j = Names n.choice a i × ((n.other ≡ b) × ((n.low ≤ j) × (j ≤ n.high) → ⊥))

-- two offered choices clash exactly when they are of two components and one of the first 512 rows is of one of them,
-- names the other's component and leaves its release outside
abbrev pub ClashByRanges : List ComponentRow → List NeedsRow → Type 0
ClashByRanges rows needs = (a i b j : ℕ) → Offered (range_meaning rows needs) a i → Offered (range_meaning rows needs) b j → Decides ((range_meaning rows needs).clash a i b j) ((a ≢ b) × SomeRow (λ n. LeavesOut n a i b j ⊎ LeavesOut n b j a i) (take 512 needs))

use Rattle.std.specs.Prelude.{ℕ, ◌<◌, List, [], slice_index, slice_index_or}
use Rattle.bounds.specs.Clashes.{Marks}
use Rattle.masks.specs.Masks.{Has}
use Rattle.rows.specs.declared.suits.SuitRow.{SuitRow}
use Rattle.rows.specs.declared.suits.SuitRows.{SuitRows}

-- what is read past the end of a table is empty
abbrev pub no_row : SuitRow
no_row = record { masks = [] }

abbrev pub no_rows : SuitRows
no_rows = record { rows = [] }

-- the row of the release r of c
abbrev pub suit_row : List SuitRows → ℕ → ℕ → List ℕ
suit_row suits c r = (slice_index_or (slice_index_or suits c no_rows).rows r no_row).masks

-- by the tables, the release j of b suits the release r of c
abbrev pub Suits : List SuitRows → ℕ → ℕ → ℕ → ℕ → Type 0
Suits suits c r b j = Has (slice_index (suit_row suits c r) b) j

-- the pin table marks two of the first n pins although they suit each other
pub record Mismarked (n : ℕ) (pins : List ℕ) (suits : List SuitRows) (rows : List ℕ) : Type 0 where
  pub a : ℕ
  pub b : ℕ
  pub this : a < n
  pub that : b < n
  pub marks : Marks rows a b
  pub suited : Suits suits a (slice_index pins a) b (slice_index pins b)

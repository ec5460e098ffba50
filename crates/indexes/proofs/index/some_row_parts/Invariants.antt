use Rattle.std.proofs.Common.{◌≡◌, false, take}
use Rattle.std.specs.List.{list_any}
use Rattle.indexes.proofs.index.some_row_parts.Given as goal

abbrev pub invariant-loop-row : goal.invariant-loop-row
invariant-loop-row g l = list_any (g.R.ClashRow.parts l.x.component l.x.release l.y.component l.y.release) (take l.row-index l.rows) ≡ false

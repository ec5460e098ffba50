use Rattle.std.specs.Prelude.{ℕ, ◌≤◌, ◌⊎◌, List, take, Decides, nat_le}
use Rattle.std.proofs.Common.{arith}
use Rattle.std.proofs.lemmas.Bool.{leb-true, le-leb}
use Rattle.std.proofs.lemmas.Bool.Decides.{nat_tests, Decides-and, Decides-or, Decides-eqb, Decides-not}
use Rattle.std.proofs.Math.Bool.{or_comm}
use Rattle.archive.proofs.Naming.{names_decides}
use Rattle.indexes.specs.Ranges.{needs_count, leaves_out, parts, LeavesOut, ClashByRanges}
use Rattle.indexes.specs.declared.components.ComponentRow.{ComponentRow}
use Rattle.indexes.specs.declared.range.NeedsRow.{NeedsRow}
use Rattle.indexes.specs.Offering.{offered_row}
use Rattle.indexes.specs.Counting.{Rows, clash_decides}

decides_leb : (a b : ℕ) → Decides (nat_le a b) (a ≤ b)
decides_leb a b = (leb-true a b, le-leb a b)

leaves_out_decides : (n : NeedsRow) (a i b j : ℕ) → Decides (leaves_out n a i b j) (LeavesOut n a i b j)
leaves_out_decides n a i b j = Decides-and _ _ (names_decides n.choice a i) (Decides-and _ _ (Decides-eqb n.other b) (Decides-not _ (Decides-and _ _ (decides_leb n.low j) (decides_leb j n.high))))

parts_decides : (a i b j : ℕ) (n : NeedsRow) → Decides (parts a i b j n) (LeavesOut n a i b j ⊎ LeavesOut n b j a i)
parts_decides a i b j n = Decides-or _ _ (leaves_out_decides n a i b j) (leaves_out_decides n b j a i)

pub range_rows : (rows : List ComponentRow) → Rows NeedsRow rows (needs_count rows) parts
range_rows rows = record {
  own = λ c i j n h. grind (arith, nat_tests);
  apart = λ a i b j n p q ne h. grind (arith, nat_tests, offered_row rows a i p, offered_row rows b j q);
  swap = λ a i b j n. or_comm (leaves_out n a i b j) (leaves_out n b j a i);
}

pub clash_by_ranges : (rows : List ComponentRow) (needs : List NeedsRow) → ClashByRanges rows needs
clash_by_ranges rows needs a i b j p q = clash_decides (take 64 rows) (needs_count (take 64 rows)) parts (range_rows (take 64 rows)) (take 512 needs) a i b j _ (parts_decides a i b j) p q

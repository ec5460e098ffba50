use Rattle.std.specs.Prelude.{List, take}
use Rattle.std.proofs.Common.{arith}
use Rattle.std.proofs.lemmas.Bool.Decides.{nat_tests}
use Rattle.archive.proofs.Naming.{both_decides, both_swap}
use Rattle.indexes.specs.Pairs.{pair_counts, joins, ClashByPairs}
use Rattle.indexes.specs.declared.components.ComponentRow.{ComponentRow}
use Rattle.indexes.specs.declared.pair.PairRow.{PairRow}
use Rattle.indexes.specs.Counting.{Rows, clash_decides}

pub pair_rows : (rows : List ComponentRow) → Rows PairRow rows (pair_counts rows) joins
pair_rows rows = record {
  own = λ c i j p h. grind (arith, nat_tests);
  apart = λ a i b j p h k ne t. grind (arith, nat_tests);
  swap = λ a i b j p. both_swap p.first p.second a i b j;
}

pub clash_by_pairs : (rows : List ComponentRow) (ps : List PairRow) → ClashByPairs rows ps
clash_by_pairs rows ps a i b j p q = clash_decides (take 64 rows) (pair_counts (take 64 rows)) joins (pair_rows (take 64 rows)) (take 1024 ps) a i b j _ (λ x. both_decides x.first x.second a i b j) p q

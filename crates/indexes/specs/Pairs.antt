use Rattle.std.specs.Prelude.{ℕ, Bool, not, ◌&&◌, ◌≢◌, List, take, Decides, ◌==◌}
use Rattle.archive.specs.Choices.{names_both, NamesBoth}
use Rattle.archive.specs.Meaning.{Meaning, Offered}
use Rattle.tables.specs.Any.{SomeRow}
use Rattle.indexes.specs.Components.{offers, by_rows}
use Rattle.indexes.specs.declared.components.ComponentRow.{ComponentRow}
use Rattle.indexes.specs.declared.pair.PairRow.{PairRow}
use Rattle.indexes.specs.declared.index.Index.{Index}
use Rattle.tables.specs.Held.{held}

-- the row counts: both choices are offered, and are of two components
abbrev pub pair_counts : List ComponentRow → PairRow → Bool
pair_counts rows p = offers rows p.first.component p.first.release && (offers rows p.second.component p.second.release && not (p.first.component == p.second.component))

-- the row names both choices, in either order
abbrev pub joins : ℕ → ℕ → ℕ → ℕ → PairRow → Bool
joins a i b j p = names_both p.first p.second a i b j

-- what a pair index means that holds these rows
abbrev pub by_pairs : List ComponentRow → List PairRow → Meaning
by_pairs = by_rows pair_counts joins

abbrev pub pair_means : {n : ℕ} → Index PairRow n → Meaning
pair_means x = by_pairs (held x.components.rows) (held x.rows)

-- what a pair index means that is made from these rows: 64 component rows and 1,024 pair rows count
abbrev pub pair_meaning : List ComponentRow → List PairRow → Meaning
pair_meaning rows ps = by_pairs (take 64 rows) (take 1024 ps)

-- two offered choices clash exactly when they are of two components and one of the first 1,024 rows names them both
abbrev pub ClashByPairs : List ComponentRow → List PairRow → Type 0
ClashByPairs rows ps = (a i b j : ℕ) → Offered (pair_meaning rows ps) a i → Offered (pair_meaning rows ps) b j → Decides ((pair_meaning rows ps).clash a i b j) ((a ≢ b) × SomeRow (λ p. NamesBoth p.first p.second a i b j) (take 1024 ps))

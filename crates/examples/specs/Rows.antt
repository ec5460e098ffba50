use Rattle.std.specs.Prelude.{ℕ, false, replicate}
use Rattle.archive.specs.declared.choice.Choice.{Choice}
use Rattle.indexes.specs.declared.components.ComponentRow.{ComponentRow}
use Rattle.indexes.specs.declared.pair.PairRow.{PairRow}
use Rattle.indexes.specs.declared.range.NeedsRow.{NeedsRow}

-- a component with that many releases, none of them withdrawn
abbrev pub offering : ℕ → ComponentRow
offering n = record { releases = n; withdrawn = replicate 32 false }

abbrev choice : ℕ → ℕ → Choice
choice c r = record { component = c; release = r }

-- a:i needs component b at a release from low to high
abbrev pub needing : ℕ → ℕ → ℕ → ℕ → ℕ → NeedsRow
needing a i b low high = record { choice = choice a i; other = b; low = low; high = high }

-- a:i and b:j clash
abbrev pub clashing : ℕ → ℕ → ℕ → ℕ → PairRow
clashing a i b j = record { first = choice a i; second = choice b j }

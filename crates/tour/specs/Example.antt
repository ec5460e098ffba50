use Rattle.std.specs.Prelude.{true, false, List, [], ◌∷◌, replicate, slice_set}
use Rattle.archive.specs.declared.choice.Choice.{Choice}
use Rattle.indexes.specs.declared.components.ComponentRow.{ComponentRow}
use Rattle.indexes.specs.declared.pair.PairRow.{PairRow}
use Rattle.indexes.specs.declared.range.NeedsRow.{NeedsRow}

-- boot and shell have two releases, radio has three, the oldest of them withdrawn
abbrev pub two : ComponentRow
two = record { releases = 2; withdrawn = replicate 32 false }

abbrev pub three : ComponentRow
three = record { releases = 3; withdrawn = slice_set (replicate 32 false) 0 true }

abbrev pub components : List ComponentRow
components = two ∷ three ∷ two ∷ []

abbrev pub boot_0 : Choice
boot_0 = record { component = 0; release = 0 }

abbrev pub radio_0 : Choice
radio_0 = record { component = 1; release = 0 }

abbrev pub radio_1 : Choice
radio_1 = record { component = 1; release = 1 }

abbrev pub radio_2 : Choice
radio_2 = record { component = 1; release = 2 }

abbrev pub shell_1 : Choice
shell_1 = record { component = 2; release = 1 }

-- radio 2 needs boot 1, and shell 1 needs radio 2
abbrev pub needs_rows : List NeedsRow
needs_rows = record { choice = radio_2; other = 0; low = 1; high = 1 } ∷ record { choice = shell_1; other = 1; low = 2; high = 2 } ∷ []

-- the same, pair by pair
abbrev pub pair_rows : List PairRow
pair_rows = record { first = radio_2; second = boot_0 } ∷ record { first = radio_0; second = shell_1 } ∷ record { first = shell_1; second = radio_1 } ∷ []

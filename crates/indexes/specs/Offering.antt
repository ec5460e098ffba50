use Rattle.std.specs.Prelude.{◌≡◌, ℕ, ◌<◌, ◌≤◌, min, true, List, length}
use Rattle.std.proofs.Common.{ap, arith}
use Rattle.std.proofs.lemmas.List.{get_or_past}
use Rattle.std.proofs.lemmas.Bool.Decides.{nat_tests}
use Rattle.indexes.specs.Components.{absent, releases_of, offers}
use Rattle.indexes.specs.declared.components.ComponentRow.{ComponentRow}

-- past the last row there are no releases
pub releases_past : (rows : List ComponentRow) (c : ℕ) → length rows ≤ c → releases_of rows c ≡ 0
releases_past rows c h = ap (λ (x : ComponentRow). min x.releases 32) (get_or_past rows c absent h)

pub releases_few : (rows : List ComponentRow) (c : ℕ) → releases_of rows c ≤ 32
releases_few rows c = omega arith

-- a component that offers a release has a row
pub offered_row : (rows : List ComponentRow) (c r : ℕ) → offers rows c r ≡ true → c < length rows
offered_row rows c r h = grind (arith, nat_tests, releases_past rows c)

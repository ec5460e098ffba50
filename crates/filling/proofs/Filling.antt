use Rattle.std.proofs.Common.{ℕ, ◌<◌, List, inl, inr}
use Rattle.std.proofs.lemmas.Bool.{cases_lt, both_ways}
use Rattle.archive.specs.Meaning.{Meaning, Sound, Offered}
use Rattle.masks.specs.Masks.{Has}
use Rattle.masks.proofs.Bits.{has_below}
use Rattle.rows.specs.Rows.{Open}
use Rattle.filling.specs.Filled.{Opening}

-- an open release is offered
pub open_offered : (m : Meaning) (sound : Sound m) (opens : List ℕ) (opening : Opening m opens) (c r : ℕ) → c < m.components → Open opens c r → Offered m c r
open_offered m sound opens opening c r l o =
    elim (cases_lt r (m.releases c)) [
      | inl q ↦ q
      | inr q ↦ absurd (both_ways (m.withdrawn c r) ((opening c l r).0 o) (sound.withdrawn_past c r q))
    ]

-- what is in a word of 32 bits is below 32, as a lemma for `using`
pub below_32 : (m j : ℕ) → m < 4294967296 → Has m j → j < 32
below_32 m j = has_below 32 m j

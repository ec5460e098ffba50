use Rattle.std.specs.Prelude.{◌≡◌, ℕ, ◌<◌, Bool, true, false, List, slice_index}
use Rattle.archive.specs.Meaning.{Meaning}
use Rattle.bounds.specs.Clashes.{Marks}
use Rattle.masks.specs.Masks.{Has}
use Rattle.rows.specs.Rows.{Open}
use Rattle.rows.specs.Suits.{Suits, suit_row}
use Rattle.rows.specs.declared.suits.SuitRow.{SuitRow}
use Rattle.rows.specs.declared.suits.SuitRows.{SuitRows}
use Rattle.filling.specs.declared.Filled.{Filled}

-- each of the two follows from the other
abbrev pub Same : Type 0 → Type 0 → Type 0
Same P Q = (P → Q) × (Q → P)

-- the mask has the releases that the test does not bar
abbrev pub Free : ℕ → (ℕ → Bool) → Type 0
Free mask bars = (r : ℕ) → Same (Has mask r) (bars r ≡ false)

-- of the open releases, the mask has those that the test does not bar
abbrev pub FreeAmong : ℕ → ℕ → (ℕ → Bool) → Type 0
FreeAmong opens mask bars = (r : ℕ) → Has opens r → Same (Has mask r) (bars r ≡ false)

-- the row has the releases of each component that are not withdrawn
abbrev pub Opening : Meaning → List ℕ → Type 0
Opening m row = (c : ℕ) → c < m.components → Free (slice_index row c) (m.withdrawn c)

-- of the open releases of each component, the row has those that do not clash with the choice a:i
abbrev pub Suiting : Meaning → List ℕ → ℕ → ℕ → List ℕ → Type 0
Suiting m opens a i row =
    (b : ℕ) → b < m.components → FreeAmong (slice_index opens b) (slice_index row b) (m.clash a i b)

-- the tables have such a row for each open choice of the first n components
abbrev pub SuitingUpto : Meaning → List ℕ → ℕ → List SuitRows → Type 0
SuitingUpto m opens n suits = (a i : ℕ) → a < n → Open opens a i → Suiting m opens a i (suit_row suits a i)

-- if the choice a:i is open: of the open releases of b, the mask has those that do not clash with it
pub record SuitingAt (m : Meaning) (opens : List ℕ) (a i b mask : ℕ) : Type 0 where
  pub free : Open opens a i → FreeAmong (slice_index opens b) mask (m.clash a i b)

-- if the choice a:i is open: the row has such a mask for each component
pub record SuitingIf (m : Meaning) (opens : List ℕ) (a i : ℕ) (row : SuitRow) : Type 0 where
  pub suiting : Open opens a i → Suiting m opens a i row.masks

-- the pins of a and b are open, and do not suit each other
pub record Parted (opens pins : List ℕ) (suits : List SuitRows) (a b : ℕ) : Type 0 where
  pub this : Open opens a (slice_index pins a)
  pub that : Open opens b (slice_index pins b)
  pub unsuited : Suits suits a (slice_index pins a) b (slice_index pins b) → ⊥

-- of the first n components, the mask has those whose pins are parted from that of a
pub record PartedFrom (n : ℕ) (opens pins : List ℕ) (suits : List SuitRows) (a mask : ℕ) : Type 0 where
  pub same : (b : ℕ) → b < n → Same (Has mask b) (Parted opens pins suits a b)

-- the pins of a and b are not withdrawn, and clash
pub record PinsClash (m : Meaning) (pins : List ℕ) (a b : ℕ) : Type 0 where
  pub this : m.withdrawn a (slice_index pins a) ≡ false
  pub that : m.withdrawn b (slice_index pins b) ≡ false
  pub clash : m.clash a (slice_index pins a) b (slice_index pins b) ≡ true

-- the tables are those of the archive with the pins; the pin table marks the clashes among unbarred pins, in both rows
pub record Means (m : Meaning) (pins : List ℕ) (f : Filled) : Type 0 where
  pub components : f.problem.components ≡ m.components
  pub pins_are : f.problem.pins ≡ pins
  pub opens : Opening m f.opens
  pub suits : SuitingUpto m f.opens m.components f.problem.suits
  pub marks : (a b : ℕ) → a < m.components → b < m.components → Same (Marks f.problem.clashing.rows a b) (PinsClash m pins a b)

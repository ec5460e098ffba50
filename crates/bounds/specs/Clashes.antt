use Rattle.std.specs.Prelude.{◌≡◌, ℕ, ◌<◌, ◌≤◌, ◌≢◌, ◌⊎◌, List, slice_index}
use Rattle.masks.specs.Masks.{bit, Has, total, size}

-- a pin table is the list of its rows, one for each component's pin; the row of a marks b. Past the last row there is
-- no mark
abbrev pub Marks : List ℕ → ℕ → ℕ → Type 0
Marks rows a b = Has (slice_index rows a) b

-- two pins clash in the table when either row marks the other
abbrev pub Clash : List ℕ → ℕ → ℕ → Type 0
Clash rows a b = Marks rows a b ⊎ Marks rows b a

-- after is before with b marked in a's row; from 64 on there is nothing to mark
pub record Marked (before : List ℕ) (a b : ℕ) (after : List ℕ) : Type 0 where
  pub has : a < 64 → b < 64 → Marks after a b
  pub rest : (c d : ℕ) → (c ≢ a) ⊎ (d ≢ b) → bit (slice_index after c) d ≡ bit (slice_index before c) d
  pub past : (64 ≤ a) ⊎ (64 ≤ b) → after ≡ before

-- g, 1 or 0 at each of the 64 pins, is a group of open pins no two of which clash
pub record Group (rows : List ℕ) (opens : ℕ) (g : ℕ → ℕ) : Type 0 where
  pub bits : (c : ℕ) → g c ≤ 1
  pub inside : (c : ℕ) → c < 64 → g c ≡ 1 → Has opens c
  pub apart : (a b : ℕ) → a < 64 → b < 64 → a ≢ b → g a ≡ 1 → g b ≡ 1 → Clash rows a b → ⊥

-- no group of open pins without a clash is larger than the answer
abbrev pub Reaches : (List ℕ → ℕ → ℕ) → Type 0
Reaches answer = (rows : List ℕ) (opens : ℕ) (g : ℕ → ℕ) → Group rows opens g → total g 64 ≤ answer rows opens

-- and the answer is no more than all the open pins
abbrev pub Most : (List ℕ → ℕ → ℕ) → Type 0
Most answer = (rows : List ℕ) (opens : ℕ) → answer rows opens ≤ size 64 opens

use Rattle.std.specs.Prelude.{ℕ, ◌<◌, cond, List, ◌==◌, slice_index}
use Rattle.masks.specs.Masks.{Has, total}
use Rattle.rows.specs.Rows.{Open}
use Rattle.rows.specs.declared.problem.Problem.{Problem}

-- 1 where a pin stands; the entry 255 is no pin
abbrev pub stands : ℕ → ℕ
stands pin = cond (pin == 255) 0 1

-- how many pins there are
abbrev pub pinned : Problem → ℕ
pinned p = total (λ c. stands (slice_index p.pins c)) p.components

-- the mask has the components whose pins are open in the row
pub record OpenPins (p : Problem) (row : List ℕ) (mask : ℕ) : Type 0 where
  pub only : (c : ℕ) → Has mask c → (c < p.components) × Open row c (slice_index p.pins c)
  pub each : (c : ℕ) → c < p.components → Open row c (slice_index p.pins c) → Has mask c

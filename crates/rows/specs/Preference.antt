use Rattle.std.specs.Prelude.{◌≡◌, ℕ, ◌<◌, ◌⊎◌}
use Rattle.archive.specs.Sets.{Prefers}
use Rattle.masks.specs.Masks.{Has}

-- r, below 32, is in the mask, and a component with the pin prefers it to whatever else is
pub record Preferred (pin mask r : ℕ) : Type 0 where
  pub fits : r < 32
  pub has : Has mask r
  pub first : (j : ℕ) → Has mask j → (r ≡ j) ⊎ Prefers pin r j

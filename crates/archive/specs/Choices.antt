use Rattle.std.specs.Prelude.{◌≡◌, ℕ, Bool, ◌&&◌, ◌||◌, ◌⊎◌, ◌==◌}
use Rattle.archive.specs.declared.choice.Choice.{Choice}

-- x is the choice c:r
abbrev pub names : Choice → ℕ → ℕ → Bool
names x c r = x.component == c && x.release == r

-- x and y are a:i and b:j in this order
abbrev pub names_each : Choice → Choice → ℕ → ℕ → ℕ → ℕ → Bool
names_each x y a i b j = names x a i && names y b j

-- x and y are a:i and b:j, in either order
abbrev pub names_both : Choice → Choice → ℕ → ℕ → ℕ → ℕ → Bool
names_both x y a i b j = names_each x y a i b j || names_each x y b j a i

-- the same as propositions
abbrev pub Names : Choice → ℕ → ℕ → Type 0
Names x c r = (x.component ≡ c) × (x.release ≡ r)

abbrev pub NamesEach : Choice → Choice → ℕ → ℕ → ℕ → ℕ → Type 0
NamesEach x y a i b j = Names x a i × Names y b j

abbrev pub NamesBoth : Choice → Choice → ℕ → ℕ → ℕ → ℕ → Type 0
NamesBoth x y a i b j = NamesEach x y a i b j ⊎ NamesEach x y b j a i

use Rattle.std.specs.Prelude.{◌≡◌, ℕ, ◌≢◌}
use Rattle.archive.specs.Meaning.{Meaning, Offered}

-- two meanings agree on what is offered and on what is barred
pub record Alike (m m' : Meaning) : Type 0 where
  pub components : m.components ≡ m'.components
  pub releases : (c : ℕ) → m.releases c ≡ m'.releases c
  pub choices : (c r : ℕ) → Offered m c r → m.withdrawn c r ≡ m'.withdrawn c r
  pub pairs : (a i b j : ℕ) → Offered m a i → Offered m b j → a ≢ b → m.clash a i b j ≡ m'.clash a i b j

use Rattle.std.specs.Prelude.{◌≡◌, ℕ, ◌<◌, ◌≤◌, Bool, true, false}

-- what an archive means: how many components it has, how many releases each of them has,
-- which choices are withdrawn, and which two choices clash; a choice is a component c with a release r, written c:r
pub record Meaning : Type 0 where
  pub components : ℕ
  pub releases : ℕ → ℕ
  pub withdrawn : ℕ → ℕ → Bool
  pub clash : ℕ → ℕ → ℕ → ℕ → Bool

-- the component has that release
abbrev pub Offered : Meaning → ℕ → ℕ → Type 0
Offered m c r = r < m.releases c

-- the law of every archive: its limits, what lies past them, and that clash is a relation between components
pub record Sound (m : Meaning) : Type 0 where
  pub few_components : m.components ≤ 64
  pub few_releases : (c : ℕ) → m.releases c ≤ 32
  -- past the last component there are no releases
  pub none_past : (c : ℕ) → m.components ≤ c → m.releases c ≡ 0
  -- a choice that is not offered is withdrawn, and clashes with everything
  pub withdrawn_past : (c r : ℕ) → m.releases c ≤ r → m.withdrawn c r ≡ true
  pub clash_past : (a i b j : ℕ) → m.releases a ≤ i → m.clash a i b j ≡ true
  -- two offered choices of one component do not clash
  pub own : (c i j : ℕ) → Offered m c i → Offered m c j → m.clash c i c j ≡ false
  -- it does not matter which of the two choices is named first
  pub symmetric : (a i b j : ℕ) → m.clash a i b j ≡ m.clash b j a i

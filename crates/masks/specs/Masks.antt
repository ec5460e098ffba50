use Rattle.std.specs.Prelude.{◌≡◌, ℕ, zero, suc, ◌+◌, ◌/◌, ◌%◌, ◌^◌, ◌<◌, ◌≤◌, ◌≢◌}

-- bit j of the word m
unfoldable pub bit : ℕ → ℕ → ℕ
bit m j = (m / 2 ^ j) % 2

-- a word is the set of the numbers whose bits are set: j is in m
abbrev pub Has : ℕ → ℕ → Type 0
Has m j = bit m j ≡ 1

-- nothing is in m
abbrev pub Empty : ℕ → Type 0
Empty m = (j : ℕ) → Has m j → ⊥

-- the sum of f below n
abbrev pub total : (ℕ → ℕ) → ℕ → ℕ
total f zero = 0
total f (suc n) = total f n + f n

-- how many numbers below w are in m
unfoldable pub size : ℕ → ℕ → ℕ
size w m = total (bit m) w

-- r is j alone, where j is below w
pub record Only (w j r : ℕ) : Type 0 where
  pub has : j < w → Has r j
  pub alone : (k : ℕ) → Has r k → k ≡ j

-- r is m with j, where j is below w
pub record With (w m j r : ℕ) : Type 0 where
  pub has : j < w → Has r j
  pub rest : (k : ℕ) → k ≢ j → bit r k ≡ bit m k

-- r is m without j
pub record Without (m j r : ℕ) : Type 0 where
  pub gone : Has r j → ⊥
  pub rest : (k : ℕ) → k ≢ j → bit r k ≡ bit m k

-- j, below w, is the highest in m
pub record Highest (w m j : ℕ) : Type 0 where
  pub fits : j < w
  pub has : Has m j
  pub top : (k : ℕ) → Has m k → k ≤ j

-- j, below w, is the lowest in m
pub record Lowest (w m j : ℕ) : Type 0 where
  pub fits : j < w
  pub has : Has m j
  pub bottom : (k : ℕ) → Has m k → j ≤ k

-- r is the numbers below n, where they are below w
pub record Below (w n r : ℕ) : Type 0 where
  pub has : (j : ℕ) → j < n → j < w → Has r j
  pub under : (j : ℕ) → Has r j → j < n

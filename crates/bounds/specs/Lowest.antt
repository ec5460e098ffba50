use Rattle.std.specs.Prelude.{◌≡◌, ℕ, zero, suc, ◌<◌, Bool, cond, Option, MatchOption}

-- the lowest number below n that passes the test, or n where none does
unfoldable pub lowest : (ℕ → Bool) → ℕ → ℕ
lowest test zero = 0
lowest test (suc n) = cond (test 0) 0 (suc (lowest (λ i. test (suc i)) n))

-- r is the lowest number low, or none where low is 64
abbrev pub Found : Option ℕ → ℕ → Type 0
Found r low = MatchOption r (low ≡ 64) (λ b. (b < 64) × (low ≡ b))

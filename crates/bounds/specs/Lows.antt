use Rattle.std.specs.Prelude.{◌≡◌, ℕ, zero, suc, ◌<◌, Bool, true, false, cond, ◌⊎◌, refl}
use Rattle.std.proofs.Common.{ap, ◌∙◌, inl, inr, arith}
use Rattle.std.proofs.lemmas.Bool.{cases_Bool, cond-true, cond-false}
use Rattle.bounds.specs.Lowest.{lowest}

-- ---- the lowest number that passes a test

-- tests that agree have the same
pub lowest_same : (p q : ℕ → Bool) (n : ℕ) → ((k : ℕ) → k < n → p k ≡ q k) → lowest p n ≡ lowest q n
unfolding lowest
lowest_same p q zero h = refl
lowest_same p q (suc n) h =
    ap (λ (z : Bool). cond z 0 (suc (lowest (λ i. p (suc i)) n))) (h 0 (omega arith))
    ∙ ap (λ (z : ℕ). cond (q 0) 0 (suc z)) (lowest_same (λ i. p (suc i)) (λ i. q (suc i)) n (λ k l. h (suc k) (omega arith)))

pub lowest_at : (p : ℕ → Bool) (n j : ℕ) → j < n → p j ≡ true → ((k : ℕ) → k < j → p k ≡ false) → lowest p n ≡ j
unfolding lowest
lowest_at p zero j l t f = absurd (omega arith)
lowest_at p (suc n) zero l t f = cond-true (p 0) 0 (suc (lowest (λ i. p (suc i)) n)) t
lowest_at p (suc n) (suc j) l t f =
    cond-false (p 0) 0 (suc (lowest (λ i. p (suc i)) n)) (f 0 (omega arith))
    ∙ ap suc (lowest_at (λ i. p (suc i)) n j (omega arith) t (λ k m. f (suc k) (omega arith)))

pub lowest_none : (p : ℕ → Bool) (n : ℕ) → ((k : ℕ) → k < n → p k ≡ false) → lowest p n ≡ n
unfolding lowest
lowest_none p zero f = refl
lowest_none p (suc n) f =
    cond-false (p 0) 0 (suc (lowest (λ i. p (suc i)) n)) (f 0 (omega arith))
    ∙ ap suc (lowest_none (λ i. p (suc i)) n (λ k m. f (suc k) (omega arith)))

-- either nothing below n passes, or the lowest does
abbrev pub Low : (ℕ → Bool) → ℕ → Type 0
Low p n = ((k : ℕ) → k < n → p k ≡ false) ⊎ ((lowest p n < n) × (p (lowest p n) ≡ true))

pub lowest_cases : (p : ℕ → Bool) (n : ℕ) → Low p n
unfolding lowest
lowest_cases p zero = inl (λ k l. absurd (omega arith))
lowest_cases p (suc n) = at (cases_Bool (p 0)) (lowest_cases (λ i. p (suc i)) n) where
  none : p 0 ≡ false → ((k : ℕ) → k < n → p (suc k) ≡ false) → (k : ℕ) → k < suc n → p k ≡ false
  none f rest zero l = f
  none f rest (suc k) l = rest k (omega arith)

  at : (p 0 ≡ true) ⊎ (p 0 ≡ false) → Low (λ i. p (suc i)) n → Low p (suc n)
  at (inl t) rest =
      let e : cond (p 0) 0 (suc (lowest (λ i. p (suc i)) n)) ≡ 0 = cond-true (p 0) 0 (suc (lowest (λ i. p (suc i)) n)) t in
      inr (omega (arith, e), ap p e ∙ t)
  at (inr f) (inl rest) = inl (none f rest)
  at (inr f) (inr (l, t)) =
      let e : cond (p 0) 0 (suc (lowest (λ i. p (suc i)) n)) ≡ suc (lowest (λ i. p (suc i)) n) = cond-false (p 0) 0 (suc (lowest (λ i. p (suc i)) n)) f in
      inr (omega (arith, e, l), ap p e ∙ t)

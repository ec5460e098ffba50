use Rattle.std.proofs.Common.{◌≡◌, ℕ, zero, suc, ◌<◌, Bool, true, List, [], ◌∷◌, length, get_or, arith}
use Rattle.archive.proofs.Below.{every, every_at}

-- a test of every list of n numbers, the one at each place k below bound k
abbrev pub every_list : ℕ → (ℕ → ℕ) → (List ℕ → Bool) → Bool
every_list zero bound p = p []
every_list (suc n) bound p = every (bound 0) (λ r. every_list n (λ k. bound (suc k)) (λ s. p (r ∷ s)))

pub every_list_at : (n : ℕ) (bound : ℕ → ℕ) (p : List ℕ → Bool) → every_list n bound p ≡ true → (s : List ℕ) → length s ≡ n → ((k : ℕ) → k < n → get_or s k 0 < bound k) → p s ≡ true
every_list_at zero bound p h [] l b = h
every_list_at zero bound p h (x ∷ s) l b = absurd (omega arith)
every_list_at (suc n) bound p h [] l b = absurd (omega arith)
every_list_at (suc n) bound p h (x ∷ s) l b =
    every_list_at n (λ k. bound (suc k)) (λ s. p (x ∷ s))
    (every_at (bound 0) (λ r. every_list n (λ k. bound (suc k)) (λ s. p (r ∷ s))) h x (b 0 (omega arith)))
    s (omega arith) (λ k q. b (suc k) (omega arith))

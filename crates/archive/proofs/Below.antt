use Rattle.std.proofs.Common.{◌≡◌, ℕ, zero, suc, ◌<◌, Bool, true, false, ◌&&◌, ◌||◌, Decides, refl}
use Rattle.std.proofs.lemmas.Bool.Decides.{Decides-below_and, Decides-below_or}

-- a test of every number below n, and whether some number below n passes
abbrev pub every : ℕ → (ℕ → Bool) → Bool
every zero p = true
every (suc n) p = p n && every n p

abbrev pub some : ℕ → (ℕ → Bool) → Bool
some zero p = false
some (suc n) p = p n || some n p

pub every_decides : (p : ℕ → Bool) (P : ℕ → Type 0) → ((k : ℕ) → Decides (p k) (P k)) → (n : ℕ) → Decides (every n p) ((k : ℕ) → k < n → P k)
every_decides p P each n = Decides-below_and p P (λ n. every n p) each refl (λ _. refl) n

pub some_decides : (p : ℕ → Bool) (P : ℕ → Type 0) → ((k : ℕ) → Decides (p k) (P k)) → (n : ℕ) → Decides (some n p) ((k : ℕ) × (k < n) × P k)
some_decides p P each n = Decides-below_or p P (λ n. some n p) each refl (λ _. refl) n

-- where every number passes, each of them does
pub every_at : (n : ℕ) (p : ℕ → Bool) → every n p ≡ true → (k : ℕ) → k < n → p k ≡ true
every_at n p h = (every_decides p (λ k. p k ≡ true) (λ k. (λ e. e, λ e. e)) n).0 h

use Rattle.std.proofs.Common.{◌≡◌, ℕ, suc, ◌+◌, ◌-◌, ◌/◌, ◌%◌, ◌^◌, ◌<◌, ◌≤◌, min, max, ◌≢◌, ◌⊎◌, sym, ap, subst, inl, inr, pow-suc, arith}
use native.Mathlib.Nat.{div-eq_of_lt-le}
use lib.Bits.{bit_and, bit_or, bit_xor}
use Rattle.std.proofs.lemmas.Bool.{cases_eq, cases_lt}
use Rattle.std.proofs.lemmas.Nat.Bits.{bit_at-lt, bit_at-suc, bit_at-zero, bit_at-pow_same, bit_at-pow_other, bit_at_lowest, bit_at_and, bit_at_or, bit_at_xor, bit_at_above, bit_at_ones, bit_at_ones_above}
use Rattle.masks.specs.Masks.{bit, Has}

pub bit_two : (m j : ℕ) → bit m j < 2
unfolding bit
bit_two m j = bit_at-lt m j

pub bit_cases : (m j : ℕ) → (bit m j ≡ 0) ⊎ (bit m j ≡ 1)
bit_cases m j = let h = bit_two m j in elim (cases_eq (bit m j) 0) [ inl e ↦ inl e | inr n ↦ inr (omega (arith, n)) ]

-- ---- the operations, bit by bit

pub bit_of_and : (a b k : ℕ) → bit (bit_and a b) k ≡ min (bit a k) (bit b k)
unfolding bit
bit_of_and a b k = bit_at_and a b k

pub bit_of_or : (a b k : ℕ) → bit (bit_or a b) k ≡ max (bit a k) (bit b k)
unfolding bit
bit_of_or a b k = bit_at_or a b k

pub bit_of_xor : (a b k : ℕ) → bit (bit_xor a b) k ≡ (bit a k + bit b k) % 2
unfolding bit
bit_of_xor a b k = bit_at_xor a b k

-- ---- the bits of a power of two, and of the number before it

pub bit_pow_same : (j : ℕ) → bit (2 ^ j) j ≡ 1
unfolding bit
bit_pow_same j = bit_at-pow_same j

pub bit_pow_other : (j k : ℕ) → k ≢ j → bit (2 ^ j) k ≡ 0
unfolding bit
bit_pow_other j k ne = bit_at-pow_other j k ne

pub bit_of_ones : (n k : ℕ) → k < n → Has (2 ^ n - 1) k
unfolding bit
bit_of_ones n k l = bit_at_ones n k l

pub bit_past_ones : (n k : ℕ) → n ≤ k → bit (2 ^ n - 1) k ≡ 0
unfolding bit
bit_past_ones n k l = bit_at_ones_above n k l

pub bit_none : (k : ℕ) → bit 0 k ≡ 0
unfolding bit
bit_none k = bit_at-zero k

-- ---- past the end of a word

pub bit_beyond : (w m k : ℕ) → m < 2 ^ w → w ≤ k → bit m k ≡ 0
unfolding bit
bit_beyond w m k h l = bit_at_above m w k h l

-- a member of a word is below its width
pub has_below : (w m j : ℕ) → m < 2 ^ w → Has m j → j < w
has_below w m j h o = elim (cases_lt j w) [ inl l ↦ l | inr l ↦ absurd (omega (arith, o, bit_beyond w m j h l)) ]

pub has_pos : (m j : ℕ) → Has m j → 0 < m
has_pos m j o =
    elim (cases_eq m 0) [
      | inl e ↦ absurd (omega (arith, subst (λ (x : ℕ). bit x j ≡ 1) e o, bit_none j))
      | inr ne ↦ omega (arith, ne)
    ]

-- ---- the highest bit

pub top_has : (a j : ℕ) → 2 ^ j ≤ a → a < 2 ^ suc j → Has a j
unfolding bit
top_has a j low high = ap (λ (x : ℕ). x % 2) (div-eq_of_lt-le {k = 1} (2 ^ j) {m = a} (omega arith) (omega (arith, pow-suc 2 j)))

-- ---- halves

pub bit_half : (m k : ℕ) → bit (m / 2) k ≡ bit m (suc k)
unfolding bit
bit_half m k = sym (bit_at-suc m k)

pub bit_first : (m : ℕ) → bit m 0 ≡ m % 2
unfolding bit
bit_first m = bit_at_lowest m

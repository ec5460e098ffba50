use Rattle.std.proofs.Common.{◌≡◌, ℕ, zero, suc, ◌+◌, ◌/◌, ◌^◌, ◌<◌, ◌≤◌, max, sym, ◌∙◌, inl, inr, pow-suc, arith}
use lib.Count.{ones, ones_step}
use Rattle.std.proofs.lemmas.Nat.{ones-le}
use Rattle.std.proofs.lemmas.Bool.{cases_order}
use Rattle.masks.specs.Masks.{bit, Has, Empty, With, Without, Lowest, total, size}
use Rattle.masks.proofs.Bits.{bit_two, bit_cases, bit_none, bit_half, bit_first, has_below}
use Rattle.masks.proofs.Words.{without_was}
use Rattle.masks.proofs.Totals.{total_mono, total_less, total_same, total_shift, total_pair, total_lone, total_zero, total_le, total_but, total_sum_le}

below : (a b : ℕ) → ((j : ℕ) → Has a j → Has b j) → (j : ℕ) → bit a j ≤ bit b j
below a b h j = elim (bit_cases a j) [ inl e ↦ omega arith | inr e ↦ omega (arith, h j e) ]

pub size_mono : (w a b : ℕ) → ((j : ℕ) → Has a j → Has b j) → size w a ≤ size w b
unfolding size
size_mono w a b h = total_mono (bit a) (bit b) w (λ j _. below a b h j)

pub size_less : (w a b j : ℕ) → ((j : ℕ) → Has a j → Has b j) → j < w → Has b j → (Has a j → ⊥) → size w a < size w b
unfolding size
size_less w a b j h l has lacks = total_less (bit a) (bit b) w j l at (λ k _. below a b h k) where
  at : bit a j < bit b j
  at = elim (bit_cases a j) [ inl e ↦ omega arith | inr e ↦ absurd (lacks e) ]

-- a word that loses its lowest gets smaller
pub size_lowest : (w m j r : ℕ) → Lowest w m j → Without m j r → size w r < size w m
size_lowest w m j r low out = size_less w r m j (without_was m j r out) low.fits low.has out.gone

-- a word of one number at most
pub size_alone : (w m j : ℕ) → ((k : ℕ) → Has m k → k ≡ j) → size w m ≤ 1
unfolding size
size_alone w m j h =
    total_lone (bit m) w (λ k. omega (arith, bit_two m k)) (λ a b _ _ p q. h a p ∙ sym (h b q))

pub size_few : (w m : ℕ) → size w m ≤ w
unfolding size
size_few w m = omega (arith, total_le (bit m) w 1 (λ k _. omega (arith, bit_two m k)))

pub size_none : (w : ℕ) → size w 0 ≡ 0
unfolding size
size_none w = total_zero (bit 0) w (λ k _. bit_none k)

pub size_empty : (w m : ℕ) → Empty m → size w m ≡ 0
unfolding size
size_empty w m none = total_zero (bit m) w (λ k _. elim (bit_cases m k) [ inl e ↦ e | inr h ↦ absurd (none k h) ])

ones_total : (n m : ℕ) → m < 2 ^ n → ones m ≡ total (bit m) n
ones_total zero m h = omega (arith, ones-le 0 m h)
ones_total (suc n) m h =
    let lt : m / 2 < 2 ^ n = omega (arith, pow-suc 2 n) in
    let e : total (bit (m / 2)) n ≡ total (λ k. bit m (suc k)) n = total_same (bit (m / 2)) (λ k. bit m (suc k)) n (λ k _. bit_half m k) in
    omega (arith, ones_step m, ones_total n (m / 2) lt, total_shift (bit m) n, bit_first m, e)

pub ones_size : (w m : ℕ) → m < 2 ^ w → ones m ≡ size w m
unfolding size
ones_size w m h = ones_total w m h

-- two in a word of at most one are the same
pub size_one : (w m i j : ℕ) → m < 2 ^ w → size w m ≤ 1 → Has m i → Has m j → i ≡ j
unfolding size
size_one w m i j fits le a b =
    elim (cases_order i j) [
      | inl e ↦ e
      | inr o ↦ elim o [
        | inl l ↦ absurd (omega (arith, le, a, b, total_pair (bit m) w i j l (has_below w m j fits b)))
        | inr l ↦ absurd (omega (arith, le, a, b, total_pair (bit m) w j i l (has_below w m i fits a)))
      ]
    ]

-- with one more the size grows by one at most
pub size_with : (w m j r : ℕ) → With w m j r → size w r ≤ size w m + 1
unfolding size
size_with w m j r h = go w where
  go : (n : ℕ) → total (bit r) n ≤ total (bit m) n + 1
  go n = omega (arith, total_but (bit r) (bit m) j n (λ k ne. h.rest k ne), bit_two r j)

-- a union has no more than both together
pub size_union : (w a b r : ℕ) → ((j : ℕ) → bit r j ≡ max (bit a j) (bit b j)) → size w r ≤ size w a + size w b
unfolding size
size_union w a b r h = total_sum_le (bit r) (bit a) (bit b) w (λ j. omega (arith, h j))

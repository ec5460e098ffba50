use Rattle.std.specs.Prelude.{◌≡◌, ℕ, ◌+◌, ◌<◌, ◌≤◌, Bool, true, false, cond, refl}
use Rattle.std.proofs.Common.{ap, arith}
use Rattle.std.proofs.lemmas.Bool.{false≢true}
use Rattle.masks.specs.Masks.{total}
use Rattle.masks.proofs.Totals.{total_same, total_less, total_le, total_sum_le, total_zero, total_lone}

-- a sum over the 64 pins, shut so that it does not unfold into 64 terms
unfoldable pub amount : (ℕ → ℕ) → ℕ
amount f = total f 64

pub amount_same : (f g : ℕ → ℕ) → ((c : ℕ) → c < 64 → f c ≡ g c) → amount f ≡ amount g
unfolding amount
amount_same f g h = total_same f g 64 h

pub amount_sum_le : (f g h : ℕ → ℕ) → ((c : ℕ) → f c ≤ g c + h c) → amount f ≤ amount g + amount h
unfolding amount
amount_sum_le f g h e = total_sum_le f g h 64 e

pub amount_zero : (f : ℕ → ℕ) → ((c : ℕ) → c < 64 → f c ≡ 0) → amount f ≡ 0
unfolding amount
amount_zero f h = total_zero f 64 h

pub amount_lone : (f : ℕ → ℕ) → ((c : ℕ) → f c ≤ 1) → ((a b : ℕ) → a < 64 → b < 64 → f a ≡ 1 → f b ≡ 1 → a ≡ b) → amount f ≤ 1
unfolding amount
amount_lone f le one = total_lone f 64 le one

abbrev pub one : Bool → ℕ
one b = cond b 1 0

-- how many pins a set has
unfoldable pub count : (ℕ → Bool) → ℕ
count left = amount (λ c. one (left c))

one_le : (x y : Bool) → (x ≡ true → y ≡ true) → one x ≤ one y
one_le true true h = omega arith
one_le true false h = absurd (false≢true (h refl))
one_le false y h = omega arith

pub count_less : (l m : ℕ → Bool) (a : ℕ) → a < 64 → l a ≡ true → m a ≡ false → ((c : ℕ) → m c ≡ true → l c ≡ true) → count m < count l
unfolding count amount
count_less l m a lt t f sub =
    total_less (λ c. one (m c)) (λ c. one (l c)) 64 a lt (omega (arith, ap one t, ap one f)) (λ c _. one_le (m c) (l c) (sub c))

pub count_same : (l m : ℕ → Bool) → ((c : ℕ) → c < 64 → l c ≡ m c) → count l ≡ count m
unfolding count
count_same l m h = amount_same (λ c. one (l c)) (λ c. one (m c)) (λ c k. ap one (h c k))

pub count_few : (l : ℕ → Bool) → count l ≤ 64
unfolding count amount
count_few l = total_le (λ c. one (l c)) 64 1 (λ c _. at (l c)) where
  at : (b : Bool) → one b ≤ 1
  at true = omega arith
  at false = omega arith

use Rattle.std.proofs.Common.{◌≡◌, ℕ, zero, suc, ◌+◌, ◌*◌, ◌<◌, ◌≤◌, ◌≢◌, sym, refl, ap, ◌∙◌, subst, inl, inr, arith}
use Rattle.std.proofs.lemmas.Bool.{cases_order, cases_eq}
use Rattle.masks.specs.Masks.{total}

pub total_mono : (f g : ℕ → ℕ) (n : ℕ) → ((c : ℕ) → c < n → f c ≤ g c) → total f n ≤ total g n
total_mono f g zero h = omega arith
total_mono f g (suc n) h = omega (arith, total_mono f g n (λ c l. h c (omega arith)), h n (omega arith))

pub total_same : (f g : ℕ → ℕ) (n : ℕ) → ((c : ℕ) → c < n → f c ≡ g c) → total f n ≡ total g n
total_same f g zero h = refl
total_same f g (suc n) h = omega (arith, total_same f g n (λ c l. h c (omega arith)), h n (omega arith))

-- below at one place, and nowhere above
pub total_less : (f g : ℕ → ℕ) (n c : ℕ) → c < n → f c < g c → ((k : ℕ) → k < n → f k ≤ g k) → total f n < total g n
total_less f g zero c l less h = absurd (omega arith)
total_less f g (suc n) c l less h =
    elim (cases_order c n) [
      | inl e ↦ let lt : f n < g n = subst (λ (x : ℕ). f x < g x) e less in
          omega (arith, total_mono f g n (λ k m. h k (omega arith)), lt)
      | inr o ↦ elim o [
        | inl b ↦ omega (arith, total_less f g n c b less (λ k m. h k (omega arith)), h n (omega arith))
        | inr a ↦ absurd (omega arith)
      ]
    ]

pub total_le : (f : ℕ → ℕ) (n m : ℕ) → ((c : ℕ) → c < n → f c ≤ m) → total f n ≤ n * m
total_le f zero m h = omega arith
total_le f (suc n) m h = omega (arith, total_le f n m (λ c l. h c (omega arith)), h n (omega arith), suc_mul' n m) where
  suc_mul' : (a b : ℕ) → suc a * b ≡ a * b + b
  suc_mul' a b = omega arith

pub total_shift : (f : ℕ → ℕ) (n : ℕ) → total f (suc n) ≡ f 0 + total (λ k. f (suc k)) n
total_shift f zero = omega arith
total_shift f (suc n) = omega (arith, total_shift f n)

pub total_at : (f : ℕ → ℕ) (n i : ℕ) → i < n → f i ≤ total f n
total_at f zero i l = absurd (omega arith)
total_at f (suc n) i l =
    elim (cases_order i n) [
      | inl e ↦ let q : f i ≡ f n = ap f e in omega arith
      | inr o ↦ elim o [ inl b ↦ omega (arith, total_at f n i b) | inr b ↦ absurd (omega arith) ]
    ]

pub total_pair : (f : ℕ → ℕ) (n i j : ℕ) → i < j → j < n → f i + f j ≤ total f n
total_pair f zero i j l m = absurd (omega arith)
total_pair f (suc n) i j l m =
    elim (cases_order j n) [
      | inl e ↦ let q : f j ≡ f n = ap f e in omega (arith, total_at f n i (omega arith))
      | inr o ↦ elim o [ inl b ↦ omega (arith, total_pair f n i j l b) | inr b ↦ absurd (omega arith) ]
    ]

pub total_more : (f : ℕ → ℕ) (n : ℕ) → total f (n + 1) ≡ total f n + f n
total_more f n = let e : n + 1 ≡ suc n = omega arith in ap (total f) e

pub total_zero : (f : ℕ → ℕ) (n : ℕ) → ((k : ℕ) → k < n → f k ≡ 0) → total f n ≡ 0
total_zero f zero h = refl
total_zero f (suc n) h = omega (arith, total_zero f n (λ k l. h k (omega arith)), h n (omega arith))

-- at most one where no two are 1
pub total_lone : (f : ℕ → ℕ) (n : ℕ) → ((k : ℕ) → f k ≤ 1) → ((a b : ℕ) → a < n → b < n → f a ≡ 1 → f b ≡ 1 → a ≡ b) → total f n ≤ 1
total_lone f zero le one = omega arith
total_lone f (suc n) le one =
    elim (cases_eq (f n) 1) [
      | inl e ↦ omega (arith, total_zero f n (λ k l. nought k l e), e)
      | inr ne ↦ omega (arith, le n, ne, total_lone f n le (λ a b p q. one a b (omega arith) (omega arith)))
    ] where
      nought : (k : ℕ) → k < n → f n ≡ 1 → f k ≡ 0
      nought k l e = elim (cases_eq (f k) 1) [ inl q ↦ absurd (omega (arith, one k n (omega arith) (omega arith) q e)) | inr ne ↦ omega (arith, ne, le k) ]

-- functions that differ at one place
pub total_but : (f g : ℕ → ℕ) (j n : ℕ) → ((k : ℕ) → k ≢ j → f k ≡ g k) → total f n ≤ total g n + f j
total_but f g j zero h = omega arith
total_but f g j (suc n) h =
    elim (cases_eq n j) [
      | inl e ↦ omega (arith, total_same f g n (λ k l. h k (λ q. absurd (omega arith))), ap f e)
      | inr ne ↦ omega (arith, total_but f g j n h, h n ne)
    ]

pub total_sum_le : (f g h : ℕ → ℕ) (n : ℕ) → ((k : ℕ) → f k ≤ g k + h k) → total f n ≤ total g n + total h n
total_sum_le f g h zero e = omega arith
total_sum_le f g h (suc n) e = omega (arith, total_sum_le f g h n e, e n)

-- a function that is 0 from n on has the same sum below w
pub total_front : (g f : ℕ → ℕ) (n w : ℕ) → n ≤ w → ((c : ℕ) → c < n → g c ≡ f c) → ((c : ℕ) → n ≤ c → g c ≡ 0) → total g w ≡ total f n
total_front g f n zero l same none = let e : n ≡ 0 = omega arith in sym (ap (total f) e)
total_front g f n (suc w) l same none =
    elim (cases_eq n (suc w)) [
      | inl e ↦ total_same g f (suc w) (λ c m. same c (omega arith)) ∙ sym (ap (total f) e)
      | inr ne ↦ omega (arith, total_front g f n w (omega (arith, ne)) same none, none w (omega (arith, ne)))
    ]

use Rattle.std.proofs.Common.{◌≡◌, ℕ, zero, suc, ◌<◌, ◌≤◌, Bool, true, false, not, ◌&&◌, cond, eqb, List, [], ◌∷◌, length, get_or, take, filter, sum_by, count_by, refl, ◌∙◌, arith}
use Rattle.std.specs.List.{zip}
use Rattle.std.proofs.lemmas.List.Sums.{sum_by-cons, length-filter}
use Rattle.archive.specs.Sets.{moved}
use Rattle.masks.specs.Masks.{total}
use Rattle.masks.proofs.Totals.{total_shift, total_same}
use Rattle.descent.specs.Pins.{stands}

-- ---- a count over lists as a total over components

sum_total : (f : ℕ → ℕ) (xs : List ℕ) (n : ℕ) → n ≤ length xs → sum_by f (take n xs) ≡ total (λ c. f (get_or xs c 0)) n
sum_total f xs zero h = refl
sum_total f [] (suc n) h = absurd (omega arith)
sum_total f (x ∷ xs) (suc n) h = omega (arith, sum_by-cons f x (take n xs), sum_total f xs n (omega arith), total_shift (λ c. f (get_or (x ∷ xs) c 0)) n)

sum_zip_total : (f : ℕ × ℕ → ℕ) (xs ys : List ℕ) (n : ℕ) → n ≤ length xs → n ≤ length ys → sum_by f (zip (take n xs) ys) ≡ total (λ c. f (get_or xs c 0, get_or ys c 0)) n
sum_zip_total f xs ys zero h k = refl
sum_zip_total f [] ys (suc n) h k = absurd (omega arith)
sum_zip_total f (x ∷ xs) [] (suc n) h k = absurd (omega arith)
sum_zip_total f (x ∷ xs) (y ∷ ys) (suc n) h k =
    omega (arith, sum_by-cons f (x, y) (zip (take n xs) ys), sum_zip_total f xs ys n (omega arith) (omega arith), total_shift (λ c. f (get_or (x ∷ xs) c 0, get_or (y ∷ ys) c 0)) n)

-- a pin that stands
abbrev pub is_pin : ℕ → Bool
is_pin pin = not (eqb pin 255)

-- a pin that stands and is not the release
abbrev pub is_moved : ℕ × ℕ → Bool
is_moved q = not (eqb q.0 255) && not (eqb q.0 q.1)

pub pins_counted : (pins : List ℕ) (n : ℕ) → n ≤ length pins → count_by is_pin (take n pins) ≡ total (λ c. stands (get_or pins c 0)) n
pins_counted pins n h = sum_total (λ x. cond (is_pin x) 1 0) pins n h ∙ total_same _ _ n (λ c _. one (eqb (get_or pins c 0) 255)) where
  one : (a : Bool) → cond (not a) 1 0 ≡ cond {A = ℕ} a 0 1
  one true = refl
  one false = refl

pub moves_counted : (pins set : List ℕ) (n : ℕ) → n ≤ length pins → n ≤ length set
    → length (filter is_moved (zip (take n pins) set)) ≡ total (λ c. moved (get_or pins c 0) (get_or set c 0)) n
moves_counted pins set n h k =
    length-filter is_moved (zip (take n pins) set) ∙ sum_zip_total (λ x. cond (is_moved x) 1 0) pins set n h k
    ∙ total_same _ _ n (λ c _. one (eqb (get_or pins c 0) 255) (eqb (get_or pins c 0) (get_or set c 0))) where
      one : (a b : Bool) → cond (not a && not b) 1 0 ≡ cond {A = ℕ} a 0 (cond b 0 1)
      one true b = refl
      one false true = refl
      one false false = refl

-- ---- what a filter that keeps nothing says of each item

pub none_kept : (t : ℕ → Bool) (xs : List ℕ) → length (filter t xs) ≡ 0 → (k : ℕ) → k < length xs → t (get_or xs k 0) ≡ false
none_kept t [] h k l = absurd (omega arith)
none_kept t (x ∷ xs) h k l = at (t x) refl (none_kept t xs) h k l where
  at : (b : Bool) → t x ≡ b → (length (filter t xs) ≡ 0 → (j : ℕ) → j < length xs → t (get_or xs j 0) ≡ false)
      → length (cond b (x ∷ filter t xs) (filter t xs)) ≡ 0 → (k : ℕ) → k < length (x ∷ xs) → t (get_or (x ∷ xs) k 0) ≡ false
  at true e rest h k l = absurd (omega arith)
  at false e rest h zero l = e
  at false e rest h (suc k) l = rest h k (omega arith)

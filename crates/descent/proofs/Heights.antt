use Rattle.std.proofs.Common.{◌≡◌, ℕ, zero, suc, ◌<◌, ◌≤◌, Bool, cond, leb, List, length, get_or, set, sym, refl, ap, subst, inl, inr, arith}
use Rattle.std.proofs.lemmas.Bool.{le-leb, lt-leb, cases_lt}
use Rattle.masks.specs.Masks.{Has, total, size}
use Rattle.masks.proofs.Sizes.{size_mono}
use Rattle.masks.proofs.Totals.{total_mono, total_less}
use Rattle.rows.specs.Rows.{Open, Narrower}
use Rattle.rows.proofs.Rows.{at_same, set_narrower}

-- 1 where at most one release is open
abbrev single : ℕ → ℕ
single m = cond (leb (size 32 m) 1) 1 0

-- how many components have at most one open release: so deep a row stands in the stack at most
abbrev pub settled : ℕ → List ℕ → ℕ
settled n row = total (λ c. single (get_or row c 0)) n

single_low : (m : ℕ) → size 32 m ≤ 1 → single m ≡ 1
single_low m h = ap (λ (b : Bool). cond b 1 0) (le-leb (size 32 m) 1 h)

single_high : (m : ℕ) → 1 < size 32 m → single m ≡ 0
single_high m h = ap (λ (b : Bool). cond b 1 0) (lt-leb (size 32 m) 1 h)

single_le : (m : ℕ) → single m ≤ 1
single_le m = elim (cases_lt 1 (size 32 m)) [ inl h ↦ omega (arith, single_high m h) | inr h ↦ omega (arith, single_low m h) ]

single_mono : (a b : ℕ) → size 32 a ≤ size 32 b → single b ≤ single a
single_mono a b h =
    elim (cases_lt 1 (size 32 b)) [
      | inl q ↦ omega (arith, single_high b q)
      | inr q ↦ omega (arith, single_low b q, single_low a (omega arith))
    ]

pub settled_mono : (n : ℕ) (a b : List ℕ) → Narrower n a b → settled n b ≤ settled n a
settled_mono n a b h =
    total_mono (λ c. single (get_or b c 0)) (λ c. single (get_or a c 0)) n
    (λ c l. single_mono (get_or a c 0) (get_or b c 0) (size_mono 32 (get_or a c 0) (get_or b c 0) (λ j. h c j l)))

-- a component with more than one open release is not settled
pub settled_short : (n c : ℕ) (row : List ℕ) → c < n → 1 < size 32 (get_or row c 0) → settled n row < n
settled_short n c row l h =
    let less : settled n row < total (λ (_ : ℕ). 1) n =
    total_less (λ c. single (get_or row c 0)) (λ _. 1) n c l (omega (arith, single_high (get_or row c 0) h)) (λ k _. single_le (get_or row k 0)) in
    omega (arith, less, ones n) where
      ones : (n : ℕ) → total (λ (_ : ℕ). 1) n ≡ n
      ones zero = refl
      ones (suc n) = omega (arith, ones n)

-- settling a component makes one more
pub set_settled : (n : ℕ) (row : List ℕ) (c m : ℕ) → c < n → n ≤ length row → ((j : ℕ) → Has m j → Open row c j) → size 32 m ≤ 1 → 1 < size 32 (get_or row c 0)
    → settled n row < settled n (set row c m)
set_settled n row c m inside long h low high =
    total_less (λ k. single (get_or row k 0)) (λ k. single (get_or (set row c m) k 0)) n c inside
    (omega (arith, single_high (get_or row c 0) high, single_low (get_or (set row c m) c 0) (subst (λ (x : ℕ). size 32 x ≤ 1) (sym (at_same n row c m inside long)) low)))
    (λ k l. single_mono (get_or (set row c m) k 0) (get_or row k 0) (size_mono 32 (get_or (set row c m) k 0) (get_or row k 0) (λ j. set_narrower n row c m inside long h k j l)))

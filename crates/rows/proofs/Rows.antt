use Rattle.std.proofs.Common.{◌≡◌, ℕ, ◌<◌, ◌≤◌, ◌≢◌, List, length, get_or, set, sym, ap, ◌∙◌, subst, inl, inr, arith}
use Rattle.std.proofs.lemmas.List.{get_or-set_same, get_or-set_other}
use Rattle.std.proofs.lemmas.Bool.{cases_eq}
use Rattle.masks.specs.Masks.{Has, Without, size}
use Rattle.masks.proofs.Totals.{total_mono, total_less}
use Rattle.masks.proofs.Sizes.{size_mono, size_less}
use Rattle.masks.proofs.Words.{without_was}
use Rattle.rows.specs.Rows.{Open, Within, Narrower, weight}

pub weight_mono : (n : ℕ) (a b : List ℕ) → Narrower n a b → weight n a ≤ weight n b
weight_mono n a b h =
    total_mono (λ c. size 32 (get_or a c 0)) (λ c. size 32 (get_or b c 0)) n (λ c l. size_mono 32 (get_or a c 0) (get_or b c 0) (λ j. h c j l))

-- the row with another mask at c
module _ (n : ℕ) (row : List ℕ) (c m : ℕ) (inside : c < n) (long : n ≤ length row) where
  pub at_same : get_or (set row c m) c 0 ≡ m
  at_same = get_or-set_same row c m 0 (omega arith)

  pub at_other : (k : ℕ) → k ≢ c → get_or (set row c m) k 0 ≡ get_or row k 0
  at_other k ne = get_or-set_other row c k m 0 ne

  pub set_narrower : ((j : ℕ) → Has m j → Open row c j) → Narrower n (set row c m) row
  set_narrower h k j l o =
      elim (cases_eq k c) [
        | inl e ↦ subst (λ (x : ℕ). Open row x j) (sym e) (h j (subst (λ (x : ℕ). Has x j) (ap (λ (x : ℕ). get_or (set row c m) x 0) e ∙ at_same) o))
        | inr ne ↦ subst (λ (x : ℕ). Has x j) (at_other k ne) o
      ]

  pub set_within : (s : ℕ → ℕ) → Within n row s → Has m (s c) → Within n (set row c m) s
  set_within s h o k l =
      elim (cases_eq k c) [
        | inl e ↦ subst (λ (x : ℕ). Open (set row c m) x (s x)) (sym e) (subst (λ (x : ℕ). Has x (s c)) (sym at_same) o)
        | inr ne ↦ subst (λ (x : ℕ). Has x (s k)) (sym (at_other k ne)) (h k l)
      ]

  pub set_weight : ((j : ℕ) → Has m j → Open row c j) → size 32 m < size 32 (get_or row c 0) → weight n (set row c m) < weight n row
  set_weight h less =
      total_less (λ k. size 32 (get_or (set row c m) k 0)) (λ k. size 32 (get_or row k 0)) n c inside
      (subst (λ (x : ℕ). size 32 x < size 32 (get_or row c 0)) (sym at_same) less)
      (λ k l. size_mono 32 (get_or (set row c m) k 0) (get_or row k 0) (λ j. set_narrower h k j l))

-- a word without one of its members is smaller
pub taken_less : (w m j r : ℕ) → j < w → Has m j → Without m j r → size w r < size w m
taken_less w m j r fits has without = size_less w r m j (without_was m j r without) fits has without.gone

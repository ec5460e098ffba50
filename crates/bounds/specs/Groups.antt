use Rattle.std.specs.Prelude.{◌≡◌, ℕ, zero, suc, ◌<◌, ◌≤◌, Bool, true, false, cond, List, ◌==◌, refl}
use Rattle.std.proofs.Common.{sym, ap, ◌∙◌, inl, inr, arith}
use Rattle.std.proofs.lemmas.Bool.{cond-true, cond-false, eq-eqb, ne_eqb}
use Rattle.bounds.specs.Pairing.{first, remaining, groups}
use Rattle.bounds.specs.Lows.{Low, lowest_same, lowest_none, lowest_cases}
use Rattle.bounds.specs.Amounts.{count, count_less}
use Rattle.bounds.specs.Sets.{remaining_parts, remaining_first, remaining_same}

abbrev pub None : (ℕ → Bool) → Type 0
None left = (c : ℕ) → c < 64 → left c ≡ false

-- the first of a set that has one
abbrev pub Some : (ℕ → Bool) → Type 0
Some left = (first left < 64) × (left (first left) ≡ true)

pub groups_none : (rows : List ℕ) (left : ℕ → Bool) (k : ℕ) → None left → groups rows left k ≡ 0
unfolding groups
groups_none rows left zero h = refl
groups_none rows left (suc k) h = cond-true (first left == 64) 0 _ (eq-eqb (first left) 64 (lowest_none left 64 h))

pub groups_more : (rows : List ℕ) (left : ℕ → Bool) (k : ℕ) → first left < 64 → groups rows left (suc k) ≡ suc (groups rows (remaining rows left (first left)) k)
unfolding groups
groups_more rows left k l = cond-false (first left == 64) 0 _ (ne_eqb (first left) 64 (λ e. absurd (omega arith)))

pub groups_same : (rows : List ℕ) (l m : ℕ → Bool) (k : ℕ) → ((c : ℕ) → c < 64 → l c ≡ m c) → groups rows l k ≡ groups rows m k
unfolding groups
groups_same rows l m zero h = refl
groups_same rows l m (suc k) h =
    ap (λ (a : ℕ). cond (a == 64) 0 (suc (groups rows (remaining rows l a) k))) (lowest_same l m 64 h)
    ∙ ap (λ (n : ℕ). cond (first m == 64) 0 (suc n)) (groups_same rows (remaining rows l (first m)) (remaining rows m (first m)) k (remaining_same rows l m (first m) h))

-- a round leaves fewer
pub round_fewer : (rows : List ℕ) (left : ℕ → Bool) → Some left → count (remaining rows left (first left)) < count left
round_fewer rows left (l, t) =
    count_less left (remaining rows left (first left)) (first left) l t (remaining_first rows left (first left)) (remaining_parts rows left (first left))

-- as many rounds as there are pins leave none
pub groups_enough : (rows : List ℕ) (left : ℕ → Bool) (k : ℕ) → count left ≤ k → groups rows left (suc k) ≡ groups rows left k
groups_enough rows left zero h = at (lowest_cases left 64) where
  at : Low left 64 → groups rows left 1 ≡ groups rows left 0
  at (inl none) = groups_none rows left 1 none ∙ sym (groups_none rows left 0 none)
  at (inr some) = absurd (omega (arith, round_fewer rows left some))
groups_enough rows left (suc k) h = at (groups_enough rows (remaining rows left (first left)) k) (lowest_cases left 64) where
  rest : ℕ → Bool
  rest = remaining rows left (first left)

  at : (count rest ≤ k → groups rows rest (suc k) ≡ groups rows rest k) → Low left 64 → groups rows left (suc (suc k)) ≡ groups rows left (suc k)
  at again (inl none) = groups_none rows left (suc (suc k)) none ∙ sym (groups_none rows left (suc k) none)
  at again (inr some) =
      groups_more rows left (suc k) some.0
      ∙ ap suc (again (omega (arith, round_fewer rows left some)))
      ∙ sym (groups_more rows left k some.0)

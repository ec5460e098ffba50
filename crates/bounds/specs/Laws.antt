use Rattle.std.specs.Prelude.{◌≡◌, ℕ, zero, suc, ◌+◌, ◌<◌, ◌≤◌, Bool, true, false, cond, ◌≢◌, ◌⊎◌, List, refl}
use Rattle.std.proofs.Common.{sym, subst, ◌∙◌, inl, inr, arith}
use Rattle.std.proofs.lemmas.Bool.{both_ways, cases_eq, and_parts, eq-eqb}
use Rattle.masks.specs.Masks.{bit, size}
use Rattle.masks.proofs.Totals.{total_mono}
use Rattle.bounds.specs.Clashes.{Clash, Reaches, Most}
use Rattle.bounds.specs.Pairing.{members, first, rivals, partner, remaining, groups, pairs}
use Rattle.bounds.specs.Lows.{Low, lowest_none, lowest_cases}
use Rattle.bounds.specs.Amounts.{amount, amount_sum_le, amount_zero, amount_lone, count, count_few}
use Rattle.bounds.specs.Sets.{size_count, clashes_decides, remaining_lacks}
use Rattle.bounds.specs.Groups.{None, groups_none, groups_more, round_fewer}

-- ---- counting

pub all_reach : Reaches (λ _ opens. size 64 opens)
unfolding size
all_reach rows opens g h = total_mono g (bit opens) 64 each where
  each : (c : ℕ) → c < 64 → g c ≤ bit opens c
  each c l = elim (cases_eq (g c) 1) [ inl e ↦ omega (arith, h.inside c l e, e) | inr ne ↦ omega (arith, h.bits c, ne) ]

pub all_most : Most (λ _ opens. size 64 opens)
all_most rows opens = omega arith

-- ---- pairing: a group within a set

pub record Kept (rows : List ℕ) (left : ℕ → Bool) (g : ℕ → ℕ) : Type 0 where
  pub bits : (c : ℕ) → g c ≤ 1
  pub inside : (c : ℕ) → c < 64 → g c ≡ 1 → left c ≡ true
  pub apart : (a b : ℕ) → a < 64 → b < 64 → a ≢ b → g a ≡ 1 → g b ≡ 1 → Clash rows a b → ⊥

-- the part of the group that a test passes, and the other part
abbrev inner : (ℕ → Bool) → (ℕ → ℕ) → ℕ → ℕ
inner left g c = cond (left c) (g c) 0

abbrev outer : (ℕ → Bool) → (ℕ → ℕ) → ℕ → ℕ
outer left g c = cond (left c) 0 (g c)

parts : (left : ℕ → Bool) (g : ℕ → ℕ) → amount g ≤ amount (inner left g) + amount (outer left g)
parts left g = amount_sum_le g (inner left g) (outer left g) (λ c. at (left c) (g c)) where
  at : (b : Bool) (n : ℕ) → n ≤ cond b n 0 + cond b 0 n
  at true n = omega arith
  at false n = omega arith

inner_one : (b : Bool) (n : ℕ) → cond b n 0 ≡ 1 → (b ≡ true) × (n ≡ 1)
inner_one true n e = (refl, e)
inner_one false n e = absurd (omega (arith, e))

outer_one : (b : Bool) (n : ℕ) → cond b 0 n ≡ 1 → (b ≡ false) × (n ≡ 1)
outer_one true n e = absurd (omega (arith, e))
outer_one false n e = (refl, e)

some_le : (b : Bool) (n : ℕ) → n ≤ 1 → (cond b n 0 ≤ 1) × (cond b 0 n ≤ 1)
some_le true n h = (h, omega arith)
some_le false n h = (omega arith, h)

kept_inner : (rows : List ℕ) (left rest : ℕ → Bool) (g : ℕ → ℕ) → Kept rows left g → Kept rows rest (inner rest g)
kept_inner rows left rest g h = record {
  bits = λ c. (some_le (rest c) (g c) (h.bits c)).0;
  inside = λ c _ e. (inner_one (rest c) (g c) e).0;
  apart = λ a b p q ne e f. h.apart a b p q ne (inner_one (rest a) (g a) e).1 (inner_one (rest b) (g b) f).1;
}

-- the first and its partner clash, so the group has one of them at most
partner_clashes : (rows : List ℕ) (left : ℕ → Bool) (a : ℕ) → partner rows left a < 64 → Clash rows a (partner rows left a)
partner_clashes rows left a l = at (lowest_cases (rivals rows left a) 64) where
  at : Low (rivals rows left a) 64 → Clash rows a (partner rows left a)
  at (inl none) = absurd (omega (arith, lowest_none (rivals rows left a) 64 none))
  at (inr (m, t)) = (clashes_decides rows a (partner rows left a)).0 (and_parts _ _ t).1

once : (rows : List ℕ) (left : ℕ → Bool) (a : ℕ) (g : ℕ → ℕ) → a < 64 → Kept rows left g → amount (outer (remaining rows left a) g) ≤ 1
once rows left a g la h = amount_lone (outer rest g) (λ c. (some_le (rest c) (g c) (h.bits c)).1) two where
  rest : ℕ → Bool
  rest = remaining rows left a

  apart : (c d : ℕ) → c < 64 → d < 64 → g c ≡ 1 → g d ≡ 1 → c ≡ a → d ≡ partner rows left a → c ≡ d
  apart c d lc ld gc gd ec ed =
      elim (cases_eq c d) [
        | inl e ↦ e
        | inr ne ↦ absurd (h.apart c d lc ld ne gc gd (subst (λ (x : ℕ). Clash rows x d) (sym ec) (subst (λ (x : ℕ). Clash rows a x) (sym ed) (partner_clashes rows left a (omega (arith, ed))))))
      ]

  two : (c d : ℕ) → c < 64 → d < 64 → outer (remaining rows left a) g c ≡ 1 → outer (remaining rows left a) g d ≡ 1 → c ≡ d
  two c d lc ld p q =
      let x = outer_one (remaining rows left a c) (g c) p in
      let y = outer_one (remaining rows left a d) (g d) q in
      at x.1 y.1 (remaining_lacks rows left a c (h.inside c lc x.1) x.0) (remaining_lacks rows left a d (h.inside d ld y.1) y.0) where
        at : g c ≡ 1 → g d ≡ 1 → (c ≡ a) ⊎ (c ≡ partner rows left a) → (d ≡ a) ⊎ (d ≡ partner rows left a) → c ≡ d
        at gc gd (inl e) (inl f) = e ∙ sym f
        at gc gd (inr e) (inr f) = e ∙ sym f
        at gc gd (inl e) (inr f) = apart c d lc ld gc gd e f
        at gc gd (inr e) (inl f) = sym (apart d c ld lc gd gc f e)

nothing_kept : (rows : List ℕ) (left : ℕ → Bool) (g : ℕ → ℕ) → Kept rows left g → None left → amount g ≡ 0
nothing_kept rows left g h none = amount_zero g each where
  each : (c : ℕ) → c < 64 → g c ≡ 0
  each c l = elim (cases_eq (g c) 1) [ inl e ↦ absurd (both_ways (left c) (none c l) (h.inside c l e)) | inr ne ↦ omega (arith, h.bits c, ne) ]

reach : (rows : List ℕ) (left : ℕ → Bool) (g : ℕ → ℕ) (k : ℕ) → Kept rows left g → count left ≤ k → amount g ≤ groups rows left k
reach rows left g zero h le = at (lowest_cases left 64) where
  at : Low left 64 → amount g ≤ groups rows left 0
  at (inl none) = omega (arith, nothing_kept rows left g h none)
  at (inr some) = absurd (omega (arith, round_fewer rows left some))
reach rows left g (suc k) h le =
    at (reach rows (remaining rows left (first left)) (inner (remaining rows left (first left)) g) k) (lowest_cases left 64) where
      rest : ℕ → Bool
      rest = remaining rows left (first left)

      at : (Kept rows rest (inner rest g) → count rest ≤ k → amount (inner rest g) ≤ groups rows rest k) → Low left 64 → amount g ≤ groups rows left (suc k)
      at again (inl none) = omega (arith, nothing_kept rows left g h none)
      at again (inr some) =
          omega (
            arith,
            parts rest g,
            once rows left (first left) g some.0 h,
            groups_more rows left k some.0,
            again (kept_inner rows left rest g h) (omega (arith, round_fewer rows left some)),
          )

few : (rows : List ℕ) (left : ℕ → Bool) (k : ℕ) → groups rows left k ≤ count left
unfolding groups
few rows left zero = omega arith
few rows left (suc k) = at (few rows (remaining rows left (first left)) k) (lowest_cases left 64) where
  at : groups rows (remaining rows left (first left)) k ≤ count (remaining rows left (first left)) → Low left 64 → groups rows left (suc k) ≤ count left
  at again (inl none) = omega (arith, groups_none rows left (suc k) none)
  at again (inr some) = omega (arith, again, groups_more rows left k some.0, round_fewer rows left some)

pub pairs_reach : Reaches pairs
unfolding pairs amount
pairs_reach rows opens g h =
    reach rows (members opens) g 64 (record { bits = h.bits; inside = λ c l e. eq-eqb (bit opens c) 1 (h.inside c l e); apart = h.apart }) (count_few (members opens))

pub pairs_most : Most pairs
unfolding pairs
pairs_most rows opens = subst (λ (n : ℕ). groups rows (members opens) 64 ≤ n) (size_count opens) (few rows (members opens) 64)

use Rattle.std.proofs.Common.{◌≡◌, ℕ, zero, suc, ◌+◌, ◌-◌, ◌*◌, ◌/◌, ◌%◌, ◌^◌, ◌<◌, ◌≤◌, min, max, Bool, true, false, not, eqb, nat_lt, ◌≢◌, ◌⊎◌, Decides, sym, refl, ap, ◌∙◌, subst, inl, inr, pow-suc, arith}
use lib.Bits.{bit_and, bit_or, bit_xor}
use lib.Count.{count_leading_zeros, count_trailing_zeros}
use mir.Val.{bits}
use Rattle.std.specs.Int.{Width, w32, w64}
use Rattle.std.proofs.lemmas.Nat.{one_shl, leading_top}
use Rattle.std.proofs.lemmas.Nat.Bits.{bit_at-trailing_zeros}
use Rattle.std.proofs.lemmas.Bool.{cases_eq, cases_lt, eqb-true, eq-eqb, ltb-true, lt-ltb}
use Rattle.masks.specs.Masks.{bit, Has, Empty, Only, With, Without, Below, Highest, Lowest}
use Rattle.masks.proofs.Bits.{bit_two, bit_cases, bit_of_and, bit_of_or, bit_of_xor, bit_pow_same, bit_pow_other, bit_of_ones, bit_past_ones, bit_none, bit_beyond, has_below, has_pos, top_has}

-- ---- j alone

pub only_shifted : (w j : ℕ) → j < w → Only w j ((1 * 2 ^ j) % 2 ^ w)
only_shifted w j l = subst (Only w j) (sym (one_shl j w l)) (record {
  has = λ _. bit_pow_same j;
  alone = λ k h. elim (cases_eq k j) [ inl e ↦ e | inr ne ↦ absurd (omega (arith, h, bit_pow_other j k ne)) ];
})

pub nothing : (k : ℕ) → Has 0 k → ⊥
nothing k h = absurd (omega (arith, h, bit_none k))

pub only_nothing : (w j : ℕ) → w ≤ j → Only w j 0
only_nothing w j l = record { has = λ h. absurd (omega arith); alone = λ k h. absurd (nothing k h) }

only_other : (w j x : ℕ) → Only w j x → (k : ℕ) → k ≢ j → bit x k ≡ 0
only_other w j x o k ne = elim (bit_cases x k) [ inl e ↦ e | inr h ↦ absurd (ne (o.alone k h)) ]

pub pick_same : (w m j x : ℕ) → Only w j x → m < 2 ^ w → bit (bit_and m x) j ≡ bit m j
pick_same w m j x o fits =
    elim (cases_lt j w) [
      | inl l ↦ omega (arith, bit_of_and m x j, o.has l, bit_two m j)
      | inr l ↦ omega (arith, bit_of_and m x j, bit_beyond w m j fits l)
    ]

pub pick_alone : (w m j x : ℕ) → Only w j x → (k : ℕ) → k ≢ j → bit (bit_and m x) k ≡ 0
pick_alone w m j x o k ne = omega (arith, bit_of_and m x k, only_other w j x o k ne)

-- ---- whether j is in

pub has_shifted : (m j : ℕ) → Decides (eqb ((m / 2 ^ j) % 2) 1) (Has m j)
unfolding bit
has_shifted m j = (eqb-true _ _, eq-eqb _ _)

pub has_past : (w m j : ℕ) → m < 2 ^ w → w ≤ j → Decides (nat_lt j w) (Has m j)
has_past w m j fits l = (λ t. absurd (omega (arith, ltb-true j w t)), λ h. lt-ltb j w (has_below w m j fits h))

-- ---- the numbers below n

pub below_shifted : (w n : ℕ) → n < w → Below w n ((1 * 2 ^ n) % 2 ^ w - 1)
below_shifted w n l = subst (λ (x : ℕ). Below w n (x - 1)) (sym (one_shl n w l)) (record {
  has = λ j a b. bit_of_ones n j a;
  under = λ j h. elim (cases_lt j n) [ inl a ↦ a | inr a ↦ absurd (omega (arith, h, bit_past_ones n j a)) ];
})

pub below_whole : (w n : ℕ) → w ≤ n → Below w n (2 ^ w - 1)
below_whole w n l = record {
  has = λ j a b. bit_of_ones w j b;
  under = λ j h. elim (cases_lt j w) [ inl a ↦ omega arith | inr a ↦ absurd (omega (arith, h, bit_past_ones w j a)) ];
}

-- ---- with and without j

pub with_only : (w m j x r : ℕ) → Only w j x → ((k : ℕ) → bit r k ≡ max (bit m k) (bit x k)) → With w m j r
with_only w m j x r o h = record {
  has = λ l. omega (arith, h j, o.has l, bit_two m j);
  rest = λ k ne. omega (arith, h k, only_other w j x o k ne);
}

pub without_pick : (m j x r : ℕ) → bit x j ≡ bit m j → ((k : ℕ) → k ≢ j → bit x k ≡ 0) → ((k : ℕ) → bit r k ≡ bit m k - bit x k) → Without m j r
without_pick m j x r same alone h = record { gone = λ o. absurd (omega (arith, o, h j, same)); rest = λ k ne. omega (arith, h k, alone k ne) }

-- what is in m without j was in m
pub without_was : (m j r : ℕ) → Without m j r → (k : ℕ) → Has r k → Has m k
without_was m j r h k o =
    elim (cases_eq k j) [
      | inl e ↦ absurd (h.gone (subst (Has r) e o))
      | inr ne ↦ sym (h.rest k ne) ∙ o
    ]

pub without_stays : (m j r : ℕ) → Without m j r → (k : ℕ) → k ≢ j → Has m k → Has r k
without_stays m j r h k ne o = h.rest k ne ∙ o

pub with_was : (w m j r : ℕ) → With w m j r → (k : ℕ) → Has r k → Has m k ⊎ (k ≡ j)
with_was w m j r h k o = elim (cases_eq k j) [ inl e ↦ inr e | inr ne ↦ inl (sym (h.rest k ne) ∙ o) ]

pub with_stays : (w m j r : ℕ) → j < w → With w m j r → (k : ℕ) → Has m k → Has r k
with_stays w m j r l h k o = elim (cases_eq k j) [ inl e ↦ subst (Has r) (sym e) (h.has l) | inr ne ↦ h.rest k ne ∙ o ]

-- ---- nothing

lt_pow : (n : ℕ) → n < 2 ^ n
lt_pow zero = omega arith
lt_pow (suc n) = omega (arith, lt_pow n, pow-suc 2 n)

-- a number that is not 0 has a bit
some_has : (m : ℕ) → 0 < m → (j : ℕ) × Has m j
some_has m pos = let t = leading_top m m pos (lt_pow m) in (t.0, top_has m t.0 t.2 t.3)

pub empty_decides : (m : ℕ) → Decides (eqb m 0) (Empty m)
empty_decides m = (λ t k h. absurd (omega (arith, eqb-true m 0 t, has_pos m k h)), λ none. eq-eqb m 0 (zero_of none)) where
  zero_of : Empty m → m ≡ 0
  zero_of none = elim (cases_eq m 0) [ inl e ↦ e | inr ne ↦ let s = some_has m (omega (arith, ne)) in absurd (none s.0 s.1) ]

pub pos_some : (m : ℕ) → (Empty m → ⊥) → 0 < m
pos_some m some = elim (cases_eq m 0) [ inl e ↦ absurd (some (λ k h. absurd (omega (arith, has_pos m k h)))) | inr ne ↦ omega (arith, ne) ]

-- ---- the highest and the lowest

pub leading_short : (w m : ℕ) → (Empty m → ⊥) → m < 2 ^ w → count_leading_zeros w m < w
leading_short w m some fits = let t = leading_top w m (pos_some m some) fits in omega (arith, t.1)

highest_leading : (w m : ℕ) → (Empty m → ⊥) → m < 2 ^ w → Highest w m (w - 1 - count_leading_zeros w m)
highest_leading w m some fits = go (leading_top w m (pos_some m some) fits) where
  go : (i : ℕ) × (count_leading_zeros w m + suc i ≡ w) × (2 ^ i ≤ m) × (m < 2 ^ suc i) → Highest w m (w - 1 - count_leading_zeros w m)
  go (i, e, low, high) =
      let same : i ≡ w - 1 - count_leading_zeros w m = omega arith in
      subst (Highest w m) same (record {
        fits = omega arith;
        has = top_has m i low high;
        top = λ k h. omega (arith, has_below (suc i) m k high h);
      })

pub highest_32 : (m : ℕ) → (Empty m → ⊥) → m < 2 ^ 32 → Highest 32 m (31 - count_leading_zeros 32 m)
highest_32 = highest_leading 32

pub highest_64 : (m : ℕ) → (Empty m → ⊥) → m < 2 ^ 64 → Highest 64 m (63 - count_leading_zeros 64 m)
highest_64 = highest_leading 64

lowest_trailing : (w : Width) → (m : ℕ) → (Empty m → ⊥) → m < 2 ^ bits w → Lowest (bits w) m (count_trailing_zeros (bits w) m)
unfolding bit
lowest_trailing w m some fits = let t = bit_at-trailing_zeros w m (pos_some m some) fits in record {
  fits = t.0;
  has = t.1;
  bottom = λ k h. elim (cases_lt k (count_trailing_zeros (bits w) m)) [ inl l ↦ absurd (omega (arith, h, t.2 k l)) | inr l ↦ l ];
}

pub lowest_32 : (m : ℕ) → (Empty m → ⊥) → m < 2 ^ 32 → Lowest 32 m (count_trailing_zeros 32 m)
lowest_32 = lowest_trailing w32

pub lowest_64 : (m : ℕ) → (Empty m → ⊥) → m < 2 ^ 64 → Lowest 64 m (count_trailing_zeros 64 m)
lowest_64 = lowest_trailing w64

-- ---- what two words share

pub meets_and : (a b x : ℕ) (e : Bool) → x ≡ bit_and a b → Decides e (Empty x) → Decides (not e) ((j : ℕ) × Has a j × Has b j)
meets_and a b x true eq (empty, _) = (λ t. absurd cc, λ s. absurd (empty refl s.0 (omega (arith, s.1, s.2, bit_of_and a b s.0, ap (λ (y : ℕ). bit y s.0) eq))))
meets_and a b x false eq (_, filled) = (λ t. shared (some_has x (pos_some x (λ none. absurd (apart (filled none))))), λ s. refl) where
  apart : false ≡ true → ⊥
  apart e = cc

  shared : (j : ℕ) × Has x j → (j : ℕ) × Has a j × Has b j
  shared (j, h) =
      let same : bit x j ≡ min (bit a j) (bit b j) = ap (λ (y : ℕ). bit y j) eq ∙ bit_of_and a b j in
      (j, omega (arith, h, same, bit_two a j), omega (arith, h, same, bit_two b j))

-- ---- union and difference

pub union_left : (a b r : ℕ) → ((j : ℕ) → bit r j ≡ max (bit a j) (bit b j)) → (j : ℕ) → Has a j → Has r j
union_left a b r h j o = omega (arith, h j, o, bit_two b j)

pub union_right : (a b r : ℕ) → ((j : ℕ) → bit r j ≡ max (bit a j) (bit b j)) → (j : ℕ) → Has b j → Has r j
union_right a b r h j o = omega (arith, h j, o, bit_two a j)

pub union_either : (a b r : ℕ) → ((j : ℕ) → bit r j ≡ max (bit a j) (bit b j)) → (j : ℕ) → Has r j → Has a j ⊎ Has b j
union_either a b r h j o = elim (bit_cases a j) [ inl e ↦ inr (omega (arith, h j, o, e)) | inr e ↦ inl e ]

pub minus_has : (a b r : ℕ) → ((j : ℕ) → bit r j ≡ bit a j - bit b j) → (j : ℕ) → Has r j → Has a j × (Has b j → ⊥)
minus_has a b r h j o = (omega (arith, h j, o, bit_two a j), λ q. absurd (omega (arith, h j, o, q, bit_two a j)))

pub union_or : (a b r : ℕ) → r ≡ bit_or a b → (j : ℕ) → bit r j ≡ max (bit a j) (bit b j)
union_or a b r e j = ap (λ (x : ℕ). bit x j) e ∙ bit_of_or a b j

-- a ^ (a & b) has a's bit where b has none, and none where b has one
pub minus_xor : (a b x r : ℕ) → x ≡ bit_and a b → r ≡ bit_xor a x → (j : ℕ) → bit r j ≡ bit a j - bit b j
minus_xor a b x r e f j =
    let both : bit x j ≡ min (bit a j) (bit b j) = ap (λ (y : ℕ). bit y j) e ∙ bit_of_and a b j in
    ap (λ (y : ℕ). bit y j) f ∙ omega (arith, bit_of_xor a x j, both, bit_two a j, bit_two b j)

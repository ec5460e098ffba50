use Rattle.std.proofs.Common.{◌≡◌, ℕ, zero, suc, ◌+◌, ◌-◌, ◌^◌, ◌<◌, ◌≤◌, List, [], length, get_or, set, sym, ap, ◌∙◌, subst, inl, inr, arith}
use Rattle.std.proofs.lemmas.List.{get_or-set_same, get_or-set_other, length-set}
use Rattle.std.proofs.lemmas.Bool.{cases_eq}
use Rattle.archive.specs.declared.choice.Choice.{Choice}
use Rattle.masks.specs.Masks.{Has, Only, Without, total, size}
use Rattle.masks.proofs.Sizes.{size_alone}
use Rattle.masks.proofs.Totals.{total_same}
use Rattle.masks.proofs.Words.{without_was, without_stays}
use Rattle.rows.specs.Rows.{at, Open, Within, Agrees, far, Narrower, weight}
use Rattle.rows.specs.declared.problem.Problem.{Problem}
use Rattle.rows.proofs.Rows.{weight_mono, set_narrower, set_within, set_weight, taken_less}
use Rattle.descent.specs.Judged.{Barren, Splits}
use Rattle.descent.proofs.Heights.{settled, settled_mono, settled_short, set_settled}
use Rattle.descent.proofs.Powers.{three_pos, three_less}

-- each agreeing set within the first row that is nearer than the limit lies within one of the rows
abbrev pub Covers : Problem → List ℕ → ℕ → List (List ℕ) → ℕ → Type 0
Covers p first limit rows height =
    (s : ℕ → ℕ) → Agrees p s → Within p.components first s → far p s < limit
    → (k : ℕ) × (k < height) × Within p.components (get_or rows k []) s

-- the rows below the height are what is left to look at; a row at depth k has settled k components
pub record Stack (p : Problem) (first : List ℕ) (limit : ℕ) (rows : List (List ℕ)) (height : ℕ) : Type 0 where
  pub tall : length rows ≡ 65
  pub under : height ≤ 65
  pub long : (k : ℕ) → k < height → length (get_or rows k []) ≡ 64
  pub deep : (k : ℕ) → k < height → k ≤ settled p.components (get_or rows k [])
  pub narrow : (k : ℕ) → k < height → Narrower p.components (get_or rows k []) first
  pub covers : Covers p first limit rows height

-- the descent ends: a row weighs three to the power of its open choices, and a split gives two that have fewer
abbrev pub load : ℕ → List (List ℕ) → ℕ → ℕ
load n rows height = total (λ k. 3 ^ weight n (get_or rows k [])) height

-- ---- the first row

-- ---- a row is dropped

pub load_pop : (n : ℕ) (rows : List (List ℕ)) (H : ℕ) → 0 < H → load n rows (H - 1) < load n rows H
load_pop n rows zero h = absurd (omega arith)
load_pop n rows (suc h) l =
    subst (λ (x : ℕ). load n rows x < load n rows (suc h)) (pred_is h) (omega (arith, three_pos (weight n (get_or rows h [])))) where
      pred_is : (h : ℕ) → h ≡ suc h - 1
      pred_is h = omega arith

module _ (p : Problem) (first : List ℕ) (limit : ℕ) (rows : List (List ℕ)) (H : ℕ) (st : Stack p first limit rows H) (pos : 0 < H) where
  pub dropped : Barren p (get_or rows (H - 1) []) limit → Stack p first limit rows (H - 1)
  dropped barren = record {
    tall = st.tall;
    under = omega (arith, st.under);
    long = λ k l. st.long k (omega arith);
    deep = λ k l. st.deep k (omega arith);
    narrow = λ k l. st.narrow k (omega arith);
    covers = λ s agrees within near.
        let w = st.covers s agrees within near in
        elim (cases_eq w.0 (H - 1)) [
          | inl e ↦ absurd (omega (arith, near, barren s agrees (subst (λ (x : ℕ). Within p.components (get_or rows x []) s) e w.2)))
          | inr ne ↦ (w.0, omega (arith, w.1, ne), w.2)
        ];
  }

-- ---- a row is split

-- two rows written on top of h
abbrev two_on : List (List ℕ) → ℕ → List ℕ → List ℕ → List (List ℕ)
two_on rows h a b = set (set rows h a) (h + 1) b

module _ (rows : List (List ℕ)) (h : ℕ) (a b : List ℕ) (room : h + 1 < length rows) where
  on_below : (k : ℕ) → k < h → get_or (two_on rows h a b) k [] ≡ get_or rows k []
  on_below k l = get_or-set_other (set rows h a) (h + 1) k b [] (λ e. absurd (omega arith)) ∙ get_or-set_other rows h k a [] (λ e. absurd (omega arith))

  on_here : get_or (two_on rows h a b) h [] ≡ a
  on_here = get_or-set_other (set rows h a) (h + 1) h b [] (λ e. absurd (omega arith)) ∙ get_or-set_same rows h a [] (omega arith)

  on_next : get_or (two_on rows h a b) (h + 1) [] ≡ b
  on_next = get_or-set_same (set rows h a) (h + 1) b [] (omega (arith, length-set rows h a))

  on_each : (P : ℕ → List ℕ → Type 0) → ((k : ℕ) → k < h → P k (get_or rows k [])) → P h a → P (h + 1) b
      → (k : ℕ) → k < h + 2 → P k (get_or (two_on rows h a b) k [])
  on_each P low at next k l =
      elim (cases_eq k (h + 1)) [
        | inl e ↦ subst (λ (x : ℕ). P x (get_or (two_on rows h a b) x [])) (sym e) (subst (P (h + 1)) (sym on_next) next)
        | inr ne ↦ elim (cases_eq k h) [
          | inl e ↦ subst (λ (x : ℕ). P x (get_or (two_on rows h a b) x [])) (sym e) (subst (P h) (sym on_here) at)
          | inr ne' ↦ let lt : k < h = omega (arith, ne, ne') in subst (P k) (sym (on_below k lt)) (low k lt)
        ]
      ]

  load_on : (n w : ℕ) → weight n a < w → weight n b < w → load n (two_on rows h a b) (h + 2) < load n rows h + 3 ^ w
  load_on n w la lb =
      let f : ℕ → ℕ = λ k. 3 ^ weight n (get_or (two_on rows h a b) k []) in
      let low : total f h ≡ load n rows h = total_same f (λ k. 3 ^ weight n (get_or rows k [])) h (λ k l. ap (λ (x : List ℕ). 3 ^ weight n x) (on_below k l)) in
      let at : f h ≡ 3 ^ weight n a = ap (λ (x : List ℕ). 3 ^ weight n x) on_here in
      let next : f (h + 1) ≡ 3 ^ weight n b = ap (λ (x : List ℕ). 3 ^ weight n x) on_next in
      let sum : total f (h + 2) ≡ (total f h + f h) + f (h + 1) = two_more f h in
      omega (arith, low, at, next, sum, three_less (weight n a) w la, three_less (weight n b) w lb, three_pos (weight n a), three_pos (weight n b)) where
        two_more : (f : ℕ → ℕ) (h : ℕ) → total f (h + 2) ≡ (total f h + f h) + f (h + 1)
        two_more f h =
            let e : h + 2 ≡ suc (suc h) = omega arith in
            let d : suc h ≡ h + 1 = omega arith in
            ap (total f) e ∙ ap (λ (x : ℕ). (total f h + f h) + f x) d

-- at the choice x, without it below and with it alone on top
module _ (p : Problem) (first : List ℕ) (limit : ℕ) (rows : List (List ℕ)) (H : ℕ) (st : Stack p first limit rows H) (pos : 0 < H)
    (after : List ℕ) (long : length after ≡ 64) (x : Choice) (sp : Splits p (get_or rows (H - 1) []) after limit x)
    (w : ℕ) (less : Without (get_or after x.component 0) x.release w) (o : ℕ) (only : Only 32 x.release o) where
  w_sub : (j : ℕ) → Has w j → Open after x.component j
  w_sub = without_was (get_or after x.component 0) x.release w less

  o_sub : (j : ℕ) → Has o j → Open after x.component j
  o_sub j h = subst (Open after x.component) (sym (only.alone j h)) sp.at_choice.has

  w_less : size 32 w < size 32 (get_or after x.component 0)
  w_less = taken_less 32 (get_or after x.component 0) x.release w sp.at_choice.fits sp.at_choice.has less

  o_one : size 32 o ≤ 1
  o_one = size_alone 32 o x.release only.alone

  n≤ : p.components ≤ length after
  n≤ = omega (arith, p.few, long)

  settled_after : H - 1 ≤ settled p.components after
  settled_after =
      omega (arith, st.deep (H - 1) (omega arith), settled_mono p.components after (get_or rows (H - 1) []) sp.narrower)

  pub low : H - 1 < 64
  low = omega (arith, settled_after, settled_short p.components x.component after sp.at_choice.inside sp.at_choice.more, p.few)

  room : H - 1 + 1 < length rows
  room = omega (arith, low, st.tall)

  a_narrow : Narrower p.components (set after x.component w) after
  a_narrow = set_narrower p.components after x.component w sp.at_choice.inside n≤ w_sub

  b_narrow : Narrower p.components (set after x.component o) after
  b_narrow = set_narrower p.components after x.component o sp.at_choice.inside n≤ o_sub

  first_narrow : (row : List ℕ) → Narrower p.components row after → Narrower p.components row first
  first_narrow row h k j l q = st.narrow (H - 1) (omega arith) k j l (sp.narrower k j l (h k j l q))

  split_covers : Covers p first limit (two_on rows (H - 1) (set after x.component w) (set after x.component o)) (H - 1 + 2)
  split_covers s agrees within near = go (st.covers s agrees within near) where
    in_after : Within p.components after s → (k : ℕ) × (k < H - 1 + 2) × Within p.components (get_or (two_on rows (H - 1) (set after x.component w) (set after x.component o)) k []) s
    in_after h =
        elim (cases_eq (s x.component) x.release) [
          | inl e ↦ (
            H - 1 + 1,
            omega arith,
            subst (λ (y : List ℕ). Within p.components y s) (sym (on_next rows (H - 1) (set after x.component w) (set after x.component o) room))
                (set_within p.components after x.component o sp.at_choice.inside n≤ s h (subst (Has o) (sym e) (only.has sp.at_choice.fits))),
          )
          | inr ne ↦ (
            H - 1,
            omega arith,
            subst (λ (y : List ℕ). Within p.components y s) (sym (on_here rows (H - 1) (set after x.component w) (set after x.component o) room))
                (set_within p.components after x.component w sp.at_choice.inside n≤ s h
                (without_stays (get_or after x.component 0) x.release w less (s x.component) ne (h x.component sp.at_choice.inside))),
          )
        ]

    go : (k : ℕ) × (k < H) × Within p.components (get_or rows k []) s
        → (k : ℕ) × (k < H - 1 + 2) × Within p.components (get_or (two_on rows (H - 1) (set after x.component w) (set after x.component o)) k []) s
    go (k, l, h) =
        elim (cases_eq k (H - 1)) [
          | inl e ↦ in_after (sp.keeps s agrees (subst (λ (y : ℕ). Within p.components (get_or rows y []) s) e h) near)
          | inr ne ↦ let lt : k < H - 1 = omega (arith, ne) in
              (k, omega arith, subst (λ (y : List ℕ). Within p.components y s) (sym (on_below rows (H - 1) (set after x.component w) (set after x.component o) room k lt)) h)
        ]

  pub split : Stack p first limit (two_on rows (H - 1) (set after x.component w) (set after x.component o)) (H - 1 + 2)
  split = record {
    tall = length-set (set rows (H - 1) (set after x.component w)) (H - 1 + 1) (set after x.component o) ∙ length-set rows (H - 1) (set after x.component w) ∙ st.tall;
    under = omega (arith, low);
    long = on_each rows (H - 1) (set after x.component w) (set after x.component o) room (λ _ y. length y ≡ 64)
        (λ k l. st.long k (omega arith)) (length-set after x.component w ∙ long) (length-set after x.component o ∙ long);
    deep = on_each rows (H - 1) (set after x.component w) (set after x.component o) room (λ k y. k ≤ settled p.components y)
        (λ k l. st.deep k (omega arith))
        (omega (arith, settled_after, settled_mono p.components (set after x.component w) after a_narrow))
        (omega (arith, settled_after, set_settled p.components after x.component o sp.at_choice.inside n≤ o_sub o_one sp.at_choice.more));
    narrow = on_each rows (H - 1) (set after x.component w) (set after x.component o) room (λ _ y. Narrower p.components y first)
        (λ k l. st.narrow k (omega arith)) (first_narrow (set after x.component w) a_narrow) (first_narrow (set after x.component o) b_narrow);
    covers = split_covers;
  }

  load_top : load p.components rows (H - 1) + 3 ^ weight p.components (get_or rows (H - 1) []) ≡ load p.components rows H
  load_top = let e : suc (H - 1) ≡ H = omega arith in ap (load p.components rows) e

  weight_after : weight p.components after ≤ weight p.components (get_or rows (H - 1) [])
  weight_after = weight_mono p.components after (get_or rows (H - 1) []) sp.narrower

  pub load_split : load p.components (two_on rows (H - 1) (set after x.component w) (set after x.component o)) (H - 1 + 2) < load p.components rows H
  load_split =
      let wa : weight p.components (set after x.component w) < weight p.components (get_or rows (H - 1) []) =
      omega (arith, weight_after, set_weight p.components after x.component w sp.at_choice.inside n≤ w_sub w_less) in
      let wb : weight p.components (set after x.component o) < weight p.components (get_or rows (H - 1) []) =
      omega (arith, weight_after, set_weight p.components after x.component o sp.at_choice.inside n≤ o_sub (omega (arith, o_one, sp.at_choice.more))) in
      omega (arith, load_on rows (H - 1) (set after x.component w) (set after x.component o) room p.components (weight p.components (get_or rows (H - 1) [])) wa wb, load_top)

use Rattle.std.proofs.Common.{◌≡◌, ℕ, ◌+◌, ◌-◌, ◌<◌, ◌≤◌, max, ◌≢◌, ◌⊎◌, List, length, get_or, set, sym, ◌∙◌, subst, inl, inr, arith, length-set}
use Rattle.std.proofs.lemmas.Bool.{cases_eq}
use Rattle.masks.specs.Masks.{bit, Has, Empty, With, Without, size}
use Rattle.masks.proofs.Bits.{bit_cases}
use Rattle.masks.proofs.Sizes.{size_less, size_with}
use Rattle.masks.proofs.Words.{nothing, without_was, without_stays, with_stays, union_left, union_right, union_either, minus_has}
use Rattle.rows.specs.Suits.{Suits, suit_row}
use Rattle.rows.specs.Rows.{Open, Agrees, Within, Narrower, Keeps, Dead, Supported, Supports, ScannedFrom, Support, weight}
use Rattle.rows.specs.declared.problem.Problem.{Problem}
use Rattle.rows.proofs.Rows.{at_same, at_other, set_narrower, set_within, set_weight}

-- ---- the masks of what is supported by y

-- part of the way through the open releases of y
pub record Gathered (p : Problem) (row : List ℕ) (y left : ℕ) (masks : List ℕ) : Type 0 where
  pub long : length masks ≡ 64
  pub still : (j : ℕ) → Has left j → Open row y j
  pub sound : (x r : ℕ) → x < 64 → Open masks x r → Supported p row y x r
  pub whole : (x r j : ℕ) → x < 64 → Open row y j → (Has left j → ⊥) → Suits p.suits y j x r → Open masks x r

pub gathered_none : (p : Problem) (row : List ℕ) (y : ℕ) (masks : List ℕ) → length masks ≡ 64 → ((x : ℕ) → get_or masks x 0 ≡ 0) → Gathered p row y (get_or row y 0) masks
gathered_none p row y masks long zeros = record {
  long = long;
  still = λ j h. h;
  sound = λ x r l o. absurd (nothing r (subst (λ (m : ℕ). Has m r) (zeros x) o));
  whole = λ x r j l o gone s. absurd (gone o);
}

module _ (p : Problem) (row : List ℕ) (y left : ℕ) (masks : List ℕ) (g : Gathered p row y left masks) where
  pub gathered_more : (j rest : ℕ) (more : List ℕ) → Has left j → Without left j rest → length more ≡ 64
      → ((x r : ℕ) → x < 64 → bit (get_or more x 0) r ≡ max (bit (get_or masks x 0) r) (bit (get_or (suit_row p.suits y j) x 0) r))
      → Gathered p row y rest more
  gathered_more j rest more has w long union = record {
    long = long;
    still = λ k h. g.still k (without_was left j rest w k h);
    sound = λ x r l o. from x r l (union_either (get_or masks x 0) (get_or (suit_row p.suits y j) x 0) (get_or more x 0) (λ i. union x i l) r o);
    whole = λ x r k l o gone s. elim (cases_eq k j) [
      | inl e ↦ union_right (get_or masks x 0) (get_or (suit_row p.suits y j) x 0) (get_or more x 0) (λ i. union x i l) r (subst (λ (i : ℕ). Suits p.suits y i x r) e s)
      | inr ne ↦ union_left (get_or masks x 0) (get_or (suit_row p.suits y j) x 0) (get_or more x 0) (λ i. union x i l) r
          (g.whole x r k l o (λ h. gone (without_stays left j rest w k ne h)) s)
    ];
  } where
    from : (x r : ℕ) → x < 64 → Open masks x r ⊎ Suits p.suits y j x r → Supported p row y x r
    from x r l (inl o) = g.sound x r l o
    from x r l (inr s) = (j, g.still j has, s)

-- ---- the scan

-- some components have been gone through
pub record Through (p : Problem) (first row : List ℕ) (changed : ℕ) : Type 0 where
  pub long : length row ≡ 64
  pub narrower : Narrower p.components row first
  pub keeps : Keeps p first row
  pub falls : size 64 changed + weight p.components row ≤ weight p.components first

-- some of the lost releases of x have been struck; first and before are the row and the changed as x came up
pub record Striking (p : Problem) (masks : List ℕ) (x : ℕ) (first : List ℕ) (before : ℕ) (row : List ℕ) (changed lost : ℕ) : Type 0 where
  pub long : length row ≡ 64
  pub narrower : Narrower p.components row first
  pub keeps : (s : ℕ → ℕ) → Within p.components first s → Open masks x (s x) → Within p.components row s
  pub falls : size 64 changed + weight p.components row ≤ size 64 before + weight p.components first
  pub still : (r : ℕ) → Has lost r → Open row x r
  pub unsupported : (r : ℕ) → Has lost r → Open masks x r → ⊥

-- an agreeing set has supported releases
pub set_supported : (p : Problem) (row masks : List ℕ) (y : ℕ) → y < p.components → Support p row y masks → (s : ℕ → ℕ) → Agrees p s → Within p.components row s
    → (x : ℕ) → x < p.components → Open masks x (s x)
set_supported p row masks y l h s agrees within x m =
    (h x (s x) (omega (arith, p.few))).1 (s y, within y l, agrees y x l m)

pub striking_none : (p : Problem) (masks : List ℕ) (x : ℕ) (row : List ℕ) (changed lost : ℕ) → length row ≡ 64
    → ((r : ℕ) → bit lost r ≡ bit (get_or row x 0) r - bit (get_or masks x 0) r) → Striking p masks x row changed row changed lost
striking_none p masks x row changed lost long minus = record {
  long = long;
  narrower = λ c r l o. o;
  keeps = λ s w o. w;
  falls = omega arith;
  still = λ r h. (minus_has (get_or row x 0) (get_or masks x 0) lost minus r h).0;
  unsupported = λ r h. (minus_has (get_or row x 0) (get_or masks x 0) lost minus r h).1;
}

module _ (p : Problem) (masks : List ℕ) (x : ℕ) (first : List ℕ) (before : ℕ) (row : List ℕ) (changed lost : ℕ)
    (st : Striking p masks x first before row changed lost) (inside : x < p.components)
    (r : ℕ) (fits : r < 32) (has : Has lost r) (rest : ℕ) (w : Without lost r rest)
    (m : ℕ) (v : Without (get_or row x 0) r m) (more : ℕ) (a : With 64 changed x more) where
  room : p.components ≤ length row
  room = omega (arith, st.long, p.few)

  sub : (j : ℕ) → Has m j → Open row x j
  sub = without_was (get_or row x 0) r m v

  pub strike_keeps : (s : ℕ → ℕ) → Within p.components first s → Open masks x (s x) → Within p.components (set row x m) s
  strike_keeps s h o =
      set_within p.components row x m inside room s (st.keeps s h o)
      (without_stays (get_or row x 0) r m v (s x) (λ e. st.unsupported r has (subst (Open masks x) e o)) (st.keeps s h o x inside))

  pub strike_narrower : Narrower p.components (set row x m) first
  strike_narrower c j l o = st.narrower c j l (set_narrower p.components row x m inside room sub c j l o)

  pub strike_falls : size 64 more + weight p.components (set row x m) ≤ size 64 before + weight p.components first
  strike_falls =
      omega (
        arith,
        st.falls,
        size_with 64 changed x more a,
        set_weight p.components row x m inside room sub (size_less 32 m (get_or row x 0) r sub fits (st.still r has) v.gone),
      )

  pub strike_one : Striking p masks x first before (set row x m) more rest
  strike_one = record {
    long = length-set row x m ∙ st.long;
    narrower = strike_narrower;
    keeps = strike_keeps;
    falls = strike_falls;
    still = λ j h. subst (λ (y : ℕ). Has y j) (sym (at_same p.components row x m inside room))
        (without_stays (get_or row x 0) r m v j (λ e. w.gone (subst (Has rest) e h)) (st.still j (without_was lost r rest w j h)));
    unsupported = λ j h. st.unsupported j (without_was lost r rest w j h);
  }

-- a component has been gone through
pub through_more : (p : Problem) (start masks : List ℕ) (y x : ℕ) (first : List ℕ) (before : ℕ) (row : List ℕ) (changed lost : ℕ)
    → y < p.components → x < p.components → Support p start y masks → Through p start first before → Striking p masks x first before row changed lost → Through p start row changed
through_more p start masks y x first before row changed lost ly lx support sc st = record {
  long = st.long;
  narrower = λ c r l o. sc.narrower c r l (st.narrower c r l o);
  keeps = λ s a w. st.keeps s (sc.keeps s a w) (set_supported p start masks y ly support s a w x lx);
  falls = omega (arith, sc.falls, st.falls);
}

-- a component has nothing left, so no set was within the row
pub struck_empty : (p : Problem) (first row : List ℕ) (x : ℕ) → x < p.components → Keeps p first row → Empty (get_or row x 0) → Dead p first
struck_empty p first row x l keeps none s a w = none (s x) (keeps s a w x l)

-- ---- what a scan leaves

-- the components before x have nothing left that lacks support; who is not marked has lost nothing
pub record Swept (masks : List ℕ) (x : ℕ) (first row : List ℕ) (changed : ℕ) : Type 0 where
  pub cleared : (k r : ℕ) → k < x → Open row k r → Open masks k r
  pub kept : (k : ℕ) → Has changed k ⊎ ((j : ℕ) → Open first k j → Open row k j)

-- what x has left is supported, or still to be struck; first and before are the row and the changed as x came up
pub record Sweeping (masks : List ℕ) (x : ℕ) (first : List ℕ) (before : ℕ) (row : List ℕ) (changed lost : ℕ) : Type 0 where
  pub marked : (k : ℕ) → Has before k → Has changed k
  pub cleared : (r : ℕ) → Open row x r → Has lost r ⊎ Open masks x r
  pub kept : (k : ℕ) → Has changed k ⊎ ((j : ℕ) → Open first k j → Open row k j)

pub swept_none : (masks first : List ℕ) (changed : ℕ) → Swept masks 0 first first changed
swept_none masks first changed = record { cleared = λ k r l. absurd (omega arith); kept = λ k. inr (λ j o. o) }

pub sweeping_none : (masks : List ℕ) (x : ℕ) (row : List ℕ) (changed lost : ℕ) → ((r : ℕ) → bit lost r ≡ bit (get_or row x 0) r - bit (get_or masks x 0) r)
    → Sweeping masks x row changed row changed lost
sweeping_none masks x row changed lost minus = record {
  marked = λ k h. h;
  cleared = λ r o. elim (bit_cases (get_or masks x 0) r) [ inl e ↦ inl (omega (arith, minus r, o, e)) | inr e ↦ inr e ];
  kept = λ k. inr (λ j o. o);
}

module _ (masks : List ℕ) (x : ℕ) (first : List ℕ) (before : ℕ) (row : List ℕ) (changed lost : ℕ) (sw : Sweeping masks x first before row changed lost)
    (n : ℕ) (inside : x < n) (room : n ≤ length row) (few : n ≤ 64) (r rest : ℕ) (w : Without lost r rest)
    (m : ℕ) (v : Without (get_or row x 0) r m) (more : ℕ) (a : With 64 changed x more) where
  still_marked : (k : ℕ) → Has changed k → Has more k
  still_marked k h = with_stays 64 changed x more (omega arith) a k h

  left : (q : ℕ) → Open (set row x m) x q → Has m q
  left q o = subst (λ (y : ℕ). Has y q) (at_same n row x m inside room) o

  pub sweep_one : Sweeping masks x first before (set row x m) more rest
  sweep_one = record {
    marked = λ k h. still_marked k (sw.marked k h);
    cleared = λ q o. clear q (left q o) (sw.cleared q (without_was (get_or row x 0) r m v q (left q o)));
    kept = λ k. elim (cases_eq k x) [ inl e ↦ inl (subst (Has more) (sym e) (a.has (omega arith))) | inr ne ↦ keep k ne (sw.kept k) ];
  } where
    clear : (q : ℕ) → Has m q → Has lost q ⊎ Open masks x q → Has rest q ⊎ Open masks x q
    clear q o (inl h) = inl (without_stays lost r rest w q (λ e. v.gone (subst (Has m) e o)) h)
    clear q o (inr s) = inr s

    keep : (k : ℕ) → k ≢ x → Has changed k ⊎ ((j : ℕ) → Open first k j → Open row k j) → Has more k ⊎ ((j : ℕ) → Open first k j → Open (set row x m) k j)
    keep k ne (inl h) = inl (still_marked k h)
    keep k ne (inr f) = inr (λ j o. subst (λ (y : ℕ). Has y j) (sym (at_other n row x m inside room k ne)) (f j o))

-- a component has been swept
pub swept_more : (p : Problem) (masks : List ℕ) (x : ℕ) (start first : List ℕ) (before : ℕ) (row : List ℕ) (changed lost : ℕ) → x < p.components
    → Swept masks x start first before → Narrower p.components row first → Sweeping masks x first before row changed lost → Empty lost → Swept masks (x + 1) start row changed
swept_more p masks x start first before row changed lost inside swept narrower sw none = record {
  cleared = λ k r l o. elim (cases_eq k x) [
    | inl e ↦ subst (λ (y : ℕ). Open masks y r) (sym e) (ends r (sw.cleared r (subst (λ (y : ℕ). Open row y r) e o)))
    | inr ne ↦ swept.cleared k r (omega (arith, ne)) (narrower k r (omega arith) o)
  ];
  kept = λ k. keep k (swept.kept k) (sw.kept k);
} where
  ends : (r : ℕ) → Has lost r ⊎ Open masks x r → Open masks x r
  ends r (inl h) = absurd (none r h)
  ends r (inr o) = o

  keep : (k : ℕ) → Has before k ⊎ ((j : ℕ) → Open start k j → Open first k j) → Has changed k ⊎ ((j : ℕ) → Open first k j → Open row k j)
      → Has changed k ⊎ ((j : ℕ) → Open start k j → Open row k j)
  keep k (inl h) g = inl (sw.marked k h)
  keep k (inr f) (inl h) = inl h
  keep k (inr f) (inr g) = inr (λ j o. g j (f j o))

-- all have been
pub swept_all : (p : Problem) (start masks : List ℕ) (y : ℕ) (row : List ℕ) (changed : ℕ) → Support p start y masks → Swept masks p.components start row changed → ScannedFrom p start y row changed
swept_all p start masks y row changed support swept = record { kept = swept.kept; supports = at (swept.kept y) } where
  at : Has changed y ⊎ ((j : ℕ) → Open start y j → Open row y j) → Has changed y ⊎ Supports p row y
  at (inl h) = inl h
  at (inr f) = inr (λ x r l o. let s = (support x r (omega (arith, p.few))).0 (swept.cleared x r l o) in (s.0, f s.0 s.1, s.2))

-- ---- the scans together

-- those that were pending at first are so still, or support what is open
abbrev pub Settling : Problem → List ℕ → ℕ → ℕ → Type 0
Settling p row first pending = (y : ℕ) → y < p.components → Has first y → Has pending y ⊎ Supports p row y

-- a component has been scanned from
pub settling_more : (p : Problem) (before : List ℕ) (first pending y rest : ℕ) (row : List ℕ) (changed more : ℕ) → Settling p before first pending → Without pending y rest
    → Narrower p.components row before → ScannedFrom p before y row changed → ((j : ℕ) → bit more j ≡ max (bit rest j) (bit changed j)) → Settling p row first more
settling_more p before first pending y rest row changed more s w narrower scan union k l h =
    elim (cases_eq k y) [
      | inl e ↦ subst (λ (x : ℕ). Has more x ⊎ Supports p row x) (sym e) (here scan.supports)
      | inr ne ↦ other ne (s k l h) (scan.kept k)
    ] where
      new : (x : ℕ) → Has changed x → Has more x
      new x o = union_right rest changed more union x o

      here : Has changed y ⊎ Supports p row y → Has more y ⊎ Supports p row y
      here (inl o) = inl (new y o)
      here (inr f) = inr f

      other : k ≢ y → Has pending k ⊎ Supports p before k → Has changed k ⊎ ((j : ℕ) → Open before k j → Open row k j) → Has more k ⊎ Supports p row k
      other ne (inl o) kept = inl (union_left rest changed more union k (without_stays pending y rest w k ne o))
      other ne (inr f) (inl o) = inl (new k o)
      other ne (inr f) (inr g) = inr (λ x r m o. let t = f x r m (narrower x r m o) in (t.0, g t.0 t.1, t.2))

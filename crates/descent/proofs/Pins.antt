use Rattle.std.proofs.Common.{◌≡◌, ℕ, zero, suc, ◌+◌, ◌-◌, ◌<◌, ◌≤◌, Bool, true, false, cond, eqb, ltb, List, get_or, sym, refl, ap, ◌∙◌, subst, inl, inr, arith}
use Rattle.std.proofs.lemmas.Bool.{cases_eq, cases_lt, ne_eqb, lt-ltb, le-ltb}
use Rattle.archive.specs.Sets.{moved}
use Rattle.bounds.specs.Clashes.{Group, Clash}
use Rattle.masks.specs.Masks.{Has, total}
use Rattle.masks.proofs.Totals.{total_front}
use Rattle.rows.specs.Rows.{Open, Agrees, Within, far}
use Rattle.rows.specs.Suits.{Suits}
use Rattle.rows.specs.declared.problem.Problem.{Problem}
use Rattle.descent.specs.Pins.{stands, pinned, OpenPins}

-- ---- kept pins

-- 1 where the release is the pin
abbrev kept_pin : ℕ → ℕ → ℕ
kept_pin pin r = cond (eqb pin 255) 0 (cond (eqb pin r) 1 0)

-- a pin that stands is moved or kept
moved_kept : (pin r : ℕ) → moved pin r + kept_pin pin r ≡ stands pin
moved_kept pin r = go (eqb pin 255) (eqb pin r) where
  go : (a b : Bool) → cond a 0 (cond b 0 1) + cond a 0 (cond b 1 0) ≡ cond a 0 1
  go true b = refl
  go false true = refl
  go false false = refl

kept_le : (pin r : ℕ) → kept_pin pin r ≤ 1
kept_le pin r = go (eqb pin 255) (eqb pin r) where
  go : (a b : Bool) → cond a 0 (cond b 1 0) ≤ 1
  go true b = omega arith
  go false true = omega arith
  go false false = omega arith

kept_says : (pin r : ℕ) → kept_pin pin r ≡ 1 → r ≡ pin
kept_says pin r k =
    elim (cases_eq pin r) [
      | inl e ↦ sym e
      | inr ne ↦ absurd (omega (arith, k, ap {B = ℕ} (λ (b : Bool). cond (eqb pin 255) 0 (cond b 1 0)) (ne_eqb pin r ne), none (eqb pin 255)))
    ] where
      none : (a : Bool) → cond {A = ℕ} a 0 0 ≡ 0
      none true = refl
      none false = refl

total_sum : (f g h : ℕ → ℕ) (n : ℕ) → ((c : ℕ) → f c + g c ≡ h c) → total f n + total g n ≡ total h n
total_sum f g h zero e = refl
total_sum f g h (suc n) e = omega (arith, total_sum f g h n e, e n)

module _ (p : Problem) (row : List ℕ) (mask : ℕ) (opens : OpenPins p row mask) (s : ℕ → ℕ) (agrees : Agrees p s) (within : Within p.components row s) where
  -- the pins that the set keeps
  pub kept : ℕ → ℕ
  kept c = cond (ltb c p.components) (kept_pin (get_or p.pins c 0) (s c)) 0

  inner : (c : ℕ) → c < p.components → kept c ≡ kept_pin (get_or p.pins c 0) (s c)
  unfolding kept
  inner c l = ap (λ (b : Bool). cond b (kept_pin (get_or p.pins c 0) (s c)) 0) (lt-ltb c p.components l)

  outer : (c : ℕ) → p.components ≤ c → kept c ≡ 0
  unfolding kept
  outer c l = ap (λ (b : Bool). cond b (kept_pin (get_or p.pins c 0) (s c)) 0) (le-ltb c p.components l)

  -- a kept pin is the set's release
  pin_kept : (c : ℕ) → kept c ≡ 1 → (c < p.components) × (s c ≡ get_or p.pins c 0)
  pin_kept c k =
      elim (cases_lt c p.components) [
        | inl l ↦ (l, kept_says (get_or p.pins c 0) (s c) (sym (inner c l) ∙ k))
        | inr l ↦ absurd (omega (arith, k, outer c l))
      ]

  -- kept pins suit each other, so that the table marks none of them
  unmarked : (a b : ℕ) → kept a ≡ 1 → kept b ≡ 1 → Has (get_or p.clashing.rows a 0) b → ⊥
  unmarked a b ka kb m =
      let qa = pin_kept a ka in
      let qb = pin_kept b kb in
      p.marked (record {
        a = a;
        b = b;
        this = qa.0;
        that = qb.0;
        marks = m;
        suited = subst (λ (x : ℕ). Suits p.suits a x b (get_or p.pins b 0)) qa.1 (subst (Suits p.suits a (s a) b) qb.1 (agrees a b qa.0 qb.0));
      })

  pub kept_group : Group p.clashing.rows mask kept
  kept_group = record {
    bits = λ c. elim (cases_lt c p.components) [ inl l ↦ omega (arith, inner c l, kept_le (get_or p.pins c 0) (s c)) | inr l ↦ omega (arith, outer c l) ];
    inside = λ c _ k. let q = pin_kept c k in opens.each c q.0 (subst (Open row c) q.1 (within c q.0));
    apart = λ a b _ _ _ ka kb. apart a b ka kb;
  } where
    apart : (a b : ℕ) → kept a ≡ 1 → kept b ≡ 1 → Clash p.clashing.rows a b → ⊥
    apart a b ka kb (inl m) = unmarked a b ka kb m
    apart a b ka kb (inr m) = unmarked b a kb ka m

  -- so that all the pins less what can be kept are moved
  pub pins_moved : (answer : ℕ) → total kept 64 ≤ answer → pinned p - answer ≤ far p s
  pins_moved answer le =
      let held : ℕ → ℕ = λ c. kept_pin (get_or p.pins c 0) (s c) in
      let front : total kept 64 ≡ total held p.components = total_front kept held p.components 64 p.few inner outer in
      let sum : far p s + total held p.components ≡ pinned p =
      total_sum (λ c. moved (get_or p.pins c 0) (s c)) held (λ c. stands (get_or p.pins c 0)) p.components (λ c. moved_kept (get_or p.pins c 0) (s c)) in
      short (pinned p) (far p s) (total held p.components) (total kept 64) answer front sum le where
        short : (a b c d e : ℕ) → d ≡ c → b + c ≡ a → d ≤ e → a - e ≤ b
        short a b c d e p q r = omega arith

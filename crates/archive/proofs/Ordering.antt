use Rattle.std.proofs.Common.{◌≡◌, ℕ, zero, suc, ◌<◌, ◌≢◌, ◌⊎◌, List, [], ◌∷◌, get_or, sym, refl, ◌∙◌, subst, inl, inr, ⊎_elim, arith}
use Rattle.std.proofs.lemmas.Bool.{cases_order, cases_eq, cases_lt}
use Rattle.archive.specs.Sets.{Before, Prefers, distance, OrderIsTotal, OrderIsStrict, FirstLeastIsUnique}

-- of two different releases the one is preferred
pub prefers_one : (p x y : ℕ) → x ≢ y → Prefers p x y ⊎ Prefers p y x
prefers_one p x y ne =
    let ne' : y ≢ x = λ e. ne (sym e) in
    elim (cases_eq x p) [
      | inl e ↦ inl (ne, inl e)
      | inr nx ↦ elim (cases_eq y p) [
        | inl e ↦ inr (ne', inl e)
        | inr ny ↦ elim (cases_lt y x) [ inl l ↦ inl (ne, inr (ny, l)) | inr l ↦ let lt : x < y = omega arith in inr (ne', inr (nx, lt)) ]
      ]
    ]

prefers_one_way : (p x y : ℕ) → Prefers p x y → Prefers p y x → ⊥
prefers_one_way p x y (ne, inl a) (ne', inl b) = ne (a ∙ sym b)
prefers_one_way p x y (ne, inl a) (ne', inr b) = b.0 a
prefers_one_way p x y (ne, inr a) (ne', inl b) = a.0 b
prefers_one_way p x y (ne, inr a) (ne', inr b) = omega (arith, a.1, b.1)

pub order_is_strict : OrderIsStrict
order_is_strict ps s t b d =
    elim (cases_order b.at d.at) [
      | inl e ↦ prefers_one_way (get_or ps d.at 255) (get_or s d.at 0) (get_or t d.at 0) (subst (λ k. Prefers (get_or ps k 255) (get_or s k 0) (get_or t k 0)) e b.prefers) d.prefers
      | inr z ↦ elim z [ inl l ↦ b.prefers.0 (sym (d.alike b.at l)) | inr l ↦ d.prefers.0 (sym (b.alike d.at l)) ]
    ]

alike_later : (x y : ℕ) (s t : List ℕ) (n : ℕ) → x ≡ y → ((k : ℕ) → k < n → get_or s k 0 ≡ get_or t k 0) → (k : ℕ) → k < suc n → get_or (x ∷ s) k 0 ≡ get_or (y ∷ t) k 0
alike_later x y s t n e h zero l = e
alike_later x y s t n e h (suc k) l = h k (omega arith)

-- the pins of the components after the first
abbrev rest : List ℕ → List ℕ
rest [] = []
rest (p ∷ ps) = ps

getD_rest : (ps : List ℕ) (k : ℕ) → get_or (rest ps) k 255 ≡ get_or ps (suc k) 255
getD_rest [] k = refl
getD_rest (p ∷ ps) k = refl

before_later : (ps : List ℕ) (x y : ℕ) (s t : List ℕ) → x ≡ y → Before (rest ps) s t → Before ps (x ∷ s) (y ∷ t)
before_later ps x y s t e b = record {
  at = suc b.at;
  within = omega (arith, b.within);
  alike = alike_later x y s t b.at e b.alike;
  prefers = subst (λ p. Prefers p (get_or s b.at 0) (get_or t b.at 0)) (getD_rest ps b.at) b.prefers;
}

before_here : (ps : List ℕ) (x y : ℕ) (s t : List ℕ) → Prefers (get_or ps 0 255) x y → Before ps (x ∷ s) (y ∷ t)
before_here ps x y s t h = record { at = 0; within = omega arith; alike = λ k l. absurd (omega arith); prefers = h }

pub order_is_total : OrderIsTotal
order_is_total ps [] [] h = inl refl
order_is_total ps [] (y ∷ t) h = absurd (omega arith)
order_is_total ps (x ∷ s) [] h = absurd (omega arith)
order_is_total ps (x ∷ s) (y ∷ t) h =
    elim (cases_eq x y) [
      | inl e ↦ elim (order_is_total (rest ps) s t (omega arith)) [
        | inl q ↦ inl (cc)
        | inr z ↦ inr (⊎_elim (λ b. inl (before_later ps x y s t e b)) (λ b. inr (before_later ps y x t s (sym e) b)) z)
      ]
      | inr ne ↦ inr (⊎_elim (λ p. inl (before_here ps x y s t p)) (λ p. inr (before_here ps y x t s p)) (prefers_one (get_or ps 0 255) x y ne))
    ]

pub first_least_is_unique : FirstLeastIsUnique
first_least_is_unique m ps s t f h =
    let e : distance ps t ≡ distance ps s = omega (arith, f.least t h.lawful, h.least s f.lawful) in
    elim (f.first t h.lawful e) [
      | inl q ↦ q
      | inr b ↦ elim (h.first s f.lawful (sym e)) [ inl q ↦ sym q | inr d ↦ absurd (order_is_strict ps s t b d) ]
    ]

-- what is wanted of the order for itself
pub ruleset order_laws = (order_is_total, order_is_strict, first_least_is_unique)

use Rattle.std.proofs.Common.{◌≡◌, ℕ, zero, suc, ◌*◌, ◌^◌, ◌<◌, ◌≤◌, ap, inl, inr, pow-suc, arith}
use Rattle.std.proofs.lemmas.Bool.{cases_order}

pub three_pos : (k : ℕ) → 0 < 3 ^ k
three_pos zero = omega arith
three_pos (suc k) = omega (arith, pow-suc 3 k, three_pos k)

pub three_less : (a w : ℕ) → a < w → 3 ^ a * 3 ≤ 3 ^ w
three_less a zero h = absurd (omega arith)
three_less a (suc w) h =
    elim (cases_order a w) [
      | inl e ↦ let q : 3 ^ a ≡ 3 ^ w = ap (λ (x : ℕ). 3 ^ x) e in omega (arith, pow-suc 3 w, q)
      | inr o ↦ elim o [
        | inl b ↦ omega (arith, pow-suc 3 w, three_less a w b)
        | inr b ↦ absurd (omega arith)
      ]
    ]

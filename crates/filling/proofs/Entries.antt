use Rattle.std.proofs.Common.{◌≡◌, ℕ, zero, suc, ◌+◌, ◌<◌, ◌≤◌, List, get_or, sym, subst, inl, inr, arith}
use Rattle.std.proofs.lemmas.Bool.{cases_eq}
use Rattle.std.specs.Fn.{Called}
use Rattle.std.specs.Array.{IsFromFnResult, IsFromFnResultFrom}
use denote.Param.Members.{Mut}

-- an array of n entries from a closure that no call changes: what holds of each call's result holds of the entry
module _ {F X : Type 0} (g : Mut F (ℕ × Unit {0}) X) (f : F) (xs : List X) (n : ℕ) (P : ℕ → X → Type 0) (gives : (k : ℕ) (x : X) (q : F) → k < n → Called g f (k, tt) x q → P k x × (q ≡ f)) where
  made_from : (m i : ℕ) → i + m ≤ n → IsFromFnResultFrom g f xs i m → (k : ℕ) (d : X) → i ≤ k → k < i + m → P k (get_or xs k d)
  made_from zero i s r k d l h = absurd (omega arith)
  made_from (suc m) i s r k d l h =
      let now = gives i r.1 r.0 (omega arith) r.3 in
      elim (cases_eq k i) [
        | inl e ↦ subst (λ (j : ℕ). P j (get_or xs j d)) (sym e) (subst (P i) (sym (r.2.1 d)) now.0)
        | inr ne ↦ made_from m (i + 1) (omega arith) (subst (λ (p : F). IsFromFnResultFrom g p xs (i + 1) m) now.1 r.4) k d (omega (arith, ne)) (omega arith)
      ]

pub made : {F X : Type 0} {g : Mut F (ℕ × Unit {0}) X} {f : F} {xs : List X} {n : ℕ} → IsFromFnResult g f xs n → (P : ℕ → X → Type 0)
    → ((k : ℕ) (x : X) (q : F) → k < n → Called g f (k, tt) x q → P k x × (q ≡ f)) → (k : ℕ) (d : X) → k < n → P k (get_or xs k d)
made {g = g} {f = f} {xs = xs} {n = n} r P gives k d h = made_from g f xs n P gives n 0 (omega arith) r.each k d (omega arith) (omega arith)

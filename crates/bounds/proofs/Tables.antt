use Rattle.std.proofs.Common.{ℕ, ◌≤◌, List, length, replicate, subst, inl, inr, arith}
use lib.ListN.{length-replicate}
use Rattle.std.proofs.lemmas.List.{get_or_past, get_or-replicate}
use Rattle.std.proofs.lemmas.Bool.{cases_lt}
use Rattle.masks.specs.Masks.{Has}
use Rattle.masks.proofs.Words.{nothing}
use Rattle.bounds.specs.Clashes.{Marks}

pub past_clear : (rows : List ℕ) (a b : ℕ) → length rows ≤ a → Marks rows a b → ⊥
past_clear rows a b l h = nothing b (subst (λ (m : ℕ). Has m b) (get_or_past rows a 0 l) h)

pub blank_clear : (n a b : ℕ) → Marks (replicate n 0) a b → ⊥
blank_clear n a b h =
    elim (cases_lt a n) [
      | inl l ↦ nothing b (subst (λ (m : ℕ). Has m b) (get_or-replicate n a 0 0 l) h)
      | inr l ↦ past_clear (replicate n 0) a b (omega (arith, length-replicate {A = ℕ} n 0)) h
    ]

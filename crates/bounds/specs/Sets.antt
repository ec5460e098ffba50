use Rattle.std.specs.Prelude.{◌≡◌, ℕ, ◌<◌, Bool, true, false, not, ◌&&◌, ◌≢◌, ◌⊎◌, List, Decides, ◌==◌, nat_eq, refl}
use Rattle.std.proofs.Common.{sym, ap, subst, ◌∙◌, inl, inr}
use Rattle.std.proofs.Math.Bool.{and-true}
use Rattle.std.proofs.lemmas.Bool.{cases_eq, eqb-false, eq-eqb, ne_eqb, and_parts, and_right, not-true, not_from_true, false≢true}
use Rattle.std.proofs.lemmas.Bool.Decides.{Decides-eqb, Decides-or}
use Rattle.masks.specs.Masks.{bit, Without, size}
use Rattle.masks.proofs.Bits.{bit_cases}
use Rattle.bounds.specs.Clashes.{Clash}
use Rattle.bounds.specs.Pairing.{members, clashes, without, rivals, partner, remaining}
use Rattle.bounds.specs.Lows.{lowest_same}
use Rattle.bounds.specs.Amounts.{amount, amount_same, count, one}

-- ---- words as sets

pub size_count : (m : ℕ) → count (members m) ≡ size 64 m
unfolding count amount size
size_count m = amount_same (λ c. one (members m c)) (bit m) (λ c _. at c (bit_cases m c)) where
  at : (c : ℕ) → (bit m c ≡ 0) ⊎ (bit m c ≡ 1) → one (members m c) ≡ bit m c
  at c (inl e) = ap (λ (x : ℕ). one (x == 1)) e ∙ sym e
  at c (inr e) = ap (λ (x : ℕ). one (x == 1)) e ∙ sym e

pub clashes_decides : (rows : List ℕ) (a b : ℕ) → Decides (clashes rows a b) (Clash rows a b)
clashes_decides rows a b = Decides-or _ _ (Decides-eqb _ 1) (Decides-eqb _ 1)

-- ---- what is left

pub without_other : (left : ℕ → Bool) (a c : ℕ) → c ≢ a → without left a c ≡ left c
without_other left a c ne = ap (λ (x : Bool). left c && not x) (ne_eqb c a ne) ∙ and-true (left c)

pub without_same : (left : ℕ → Bool) (a : ℕ) → without left a a ≡ false
without_same left a = and_right (left a) (not (a == a)) (not_from_true (a == a) (eq-eqb a a refl))

pub without_parts : (left : ℕ → Bool) (a c : ℕ) → without left a c ≡ true → (left c ≡ true) × (c ≢ a)
without_parts left a c t =
    let p = and_parts (left c) (not (c == a)) t in
    (p.0, eqb-false c a (not-true (c == a) p.1))

pub without_from : (left : ℕ → Bool) (a c : ℕ) → left c ≡ true → c ≢ a → without left a c ≡ true
without_from left a c t ne = without_other left a c ne ∙ t

pub without_like : (l m : ℕ → Bool) (a c : ℕ) → l c ≡ m c → without l a c ≡ without m a c
without_like l m a c e = ap (λ (x : Bool). x && not (c == a)) e

-- the words' removal is the sets'
pub word_without : (m a r : ℕ) → Without m a r → (c : ℕ) → members r c ≡ without (members m) a c
word_without m a r h c =
    elim (cases_eq c a) [
      | inl e ↦ subst (λ (x : ℕ). members r x ≡ without (members m) a x) (sym e) (ne_eqb (bit r a) 1 h.gone ∙ sym (without_same (members m) a))
      | inr ne ↦ ap (λ (x : ℕ). nat_eq x 1) (h.rest c ne) ∙ sym (without_other (members m) a c ne)
    ]

pub remaining_parts : (rows : List ℕ) (left : ℕ → Bool) (a c : ℕ) → remaining rows left a c ≡ true → left c ≡ true
remaining_parts rows left a c t = (without_parts left a c (without_parts (without left a) (partner rows left a) c t).0).0

pub remaining_first : (rows : List ℕ) (left : ℕ → Bool) (a : ℕ) → remaining rows left a a ≡ false
remaining_first rows left a =
    ap (λ (x : Bool). x && not (a == partner rows left a)) (without_same left a)

-- what a round takes is the first or its partner
pub remaining_lacks : (rows : List ℕ) (left : ℕ → Bool) (a c : ℕ) → left c ≡ true → remaining rows left a c ≡ false → (c ≡ a) ⊎ (c ≡ partner rows left a)
remaining_lacks rows left a c t f =
    elim (cases_eq c a) [
      | inl e ↦ inl e
      | inr ne ↦ elim (cases_eq c (partner rows left a)) [
        | inl e ↦ inr e
        | inr nb ↦ absurd (false≢true (sym f ∙ without_from (without left a) (partner rows left a) c (without_from left a c t ne) nb))
      ]
    ]

-- sets that agree leave sets that agree
pub remaining_same : (rows : List ℕ) (l m : ℕ → Bool) (a : ℕ) → ((c : ℕ) → c < 64 → l c ≡ m c) → (c : ℕ) → c < 64 → remaining rows l a c ≡ remaining rows m a c
remaining_same rows l m a h c lt =
    let e : partner rows l a ≡ partner rows m a = lowest_same (rivals rows l a) (rivals rows m a) 64 (λ b k. ap (λ (x : Bool). x && clashes rows a b) (without_like l m a b (h b k))) in
    ap (λ (x : ℕ). without (without l a) x c) e ∙ without_like (without l a) (without m a) (partner rows m a) c (without_like l m a c (h c lt))

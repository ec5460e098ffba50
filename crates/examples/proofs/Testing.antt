use Rattle.std.proofs.Common.{◌≡◌, ℕ, ◌<◌, Bool, true, false, not, ◌&&◌, ◌||◌, eqb, ltb, ◌≢◌, ◌⊎◌, List, length, get_or, Decides, inl, inr}
use Rattle.std.proofs.lemmas.List.{ext_get_or}
use Rattle.std.proofs.lemmas.Bool.{cases_eq, not-true, not_from_false}
use Rattle.std.proofs.lemmas.Bool.Decides.{Decides-like, Decides-not, Decides-and, Decides-or, Decides-eqb, Decides-ltb}
use Rattle.archive.specs.Meaning.{Meaning}
use Rattle.archive.specs.Sets.{Lawful, Prefers, Before}
use Rattle.archive.proofs.Below.{every, some, every_decides, some_decides}

decides_false : (b : Bool) → Decides (not b) (b ≡ false)
decides_false b = (not-true b, not_from_false b)

decides_unless : {Q : Type 0} (a b : ℕ) (y : Bool) → Decides y Q → Decides (eqb a b || y) (a ≢ b → Q)
decides_unless a b y d = Decides-like (eqb a b || y)
    (λ z ne. elim z [ inl e ↦ absurd (ne e) | inr q ↦ q ])
    (λ h. elim (cases_eq a b) [ inl e ↦ inl e | inr ne ↦ inr (h ne) ])
    (Decides-or (eqb a b) y (Decides-eqb a b) d)

abbrev pub lawful : Meaning → List ℕ → Bool
lawful m s = eqb (length s) m.components && (every m.components (λ c. ltb (get_or s c 0) (m.releases c)) && (every m.components (λ c. not (m.withdrawn c (get_or s c 0))) && every m.components (λ a. every m.components (λ b. eqb a b || not (m.clash a (get_or s a 0) b (get_or s b 0))))))

pub lawful_decides : (m : Meaning) (s : List ℕ) → Decides (lawful m s) (Lawful m s)
lawful_decides m s = Decides-like (lawful m s)
    (λ x. record { whole = x.0; offered = x.1.0; unbarred = x.1.1.0; suited = λ a b h k. x.1.1.1 a h b k })
    (λ l. (l.whole, (l.offered, (l.unbarred, λ a h b k. l.suited a b h k))))
    (Decides-and _ _ (Decides-eqb (length s) m.components)
    (Decides-and _ _ (every_decides _ _ (λ c. Decides-ltb (get_or s c 0) (m.releases c)) m.components)
    (Decides-and _ _ (every_decides _ _ (λ c. decides_false (m.withdrawn c (get_or s c 0))) m.components)
    (every_decides _ _ (λ a. every_decides _ _ (λ b. decides_unless a b (not (m.clash a (get_or s a 0) b (get_or s b 0))) (decides_false (m.clash a (get_or s a 0) b (get_or s b 0)))) m.components) m.components))))

abbrev prefers : ℕ → ℕ → ℕ → Bool
prefers p x y = not (eqb x y) && (eqb x p || (not (eqb y p) && ltb y x))

prefers_decides : (p x y : ℕ) → Decides (prefers p x y) (Prefers p x y)
prefers_decides p x y = Decides-and _ _ (Decides-not _ (Decides-eqb x y)) (Decides-or _ _ (Decides-eqb x p) (Decides-and _ _ (Decides-not _ (Decides-eqb y p)) (Decides-ltb y x)))

-- the sets have the same release at k
abbrev alike : List ℕ → List ℕ → ℕ → Bool
alike s t k = eqb (get_or s k 0) (get_or t k 0)

-- the sets are alike before k, and there the release of s is preferred
abbrev parts : List ℕ → List ℕ → List ℕ → ℕ → Bool
parts pins s t k = every k (alike s t) && prefers (get_or pins k 255) (get_or s k 0) (get_or t k 0)

alike_decides : (s t : List ℕ) (n : ℕ) → Decides (every n (alike s t)) ((k : ℕ) → k < n → get_or s k 0 ≡ get_or t k 0)
alike_decides s t = every_decides (alike s t) (λ k. get_or s k 0 ≡ get_or t k 0) (λ k. Decides-eqb (get_or s k 0) (get_or t k 0))

parts_decides : (pins s t : List ℕ) (k : ℕ) → Decides (parts pins s t k) (((j : ℕ) → j < k → get_or s j 0 ≡ get_or t j 0) × Prefers (get_or pins k 255) (get_or s k 0) (get_or t k 0))
parts_decides pins s t k = Decides-and _ _ (alike_decides s t k) (prefers_decides (get_or pins k 255) (get_or s k 0) (get_or t k 0))

-- s is t, or comes before it
abbrev pub leads : List ℕ → List ℕ → List ℕ → Bool
leads pins s t = every (length s) (alike s t) || some (length s) (parts pins s t)

pub leads_first : (pins s t : List ℕ) → length s ≡ length t → leads pins s t ≡ true → (s ≡ t) ⊎ Before pins s t
leads_first pins s t l h =
    elim ((Decides-or _ _ (alike_decides s t (length s)) (some_decides (parts pins s t) _ (parts_decides pins s t) (length s))).0 h) [
      | inl e ↦ inl (ext_get_or 0 s t l e)
      | inr (k, within, (e, p)) ↦ inr (record { at = k; within = within; alike = e; prefers = p })
    ]

use Rattle.std.proofs.Common.{◌≡◌, ℕ, zero, suc, ◌+◌, ◌<◌, Bool, true, false, cond, not, ◌||◌, ltb, Some, None, List, [], ◌∷◌, length, get_or, is_some, refl, ap, ◌∙◌, arith}
use Rattle.std.specs.List.{position, position_or_len, remove}
use Rattle.std.proofs.lemmas.Bool.{lt-ltb}
use Rattle.std.proofs.lemmas.Bool.Decides.{nat_tests}
use Rattle.std.proofs.lemmas.List.Quantifiers.{position-Some}
use Rattle.notices.specs.Notices.{alike, filed, lifted}
use Rattle.notices.specs.declared.notice.Notice.{Notice}

-- one more row in front of those of which m are passed over
ahead : (b f : Bool) (m k : ℕ) → ltb m k ≡ f → ltb (cond (not b) (1 + m) 0) (suc k) ≡ (b || f)
ahead true f m k e = lt-ltb 0 (suc k) (omega arith)
ahead false f m k e = grind (arith, nat_tests) ∙ e

found : (n : Notice) (xs : List Notice) → ltb (position_or_len (alike n) xs) (length xs) ≡ filed xs n
found n [] = refl
found n (x ∷ xs) = ahead (alike n x) (filed xs n) (position_or_len (alike n) xs) (length xs) (found n xs)

shown : (b : Bool) (m : ℕ) → is_some (cond b (Some m) None) ≡ b
shown true m = refl
shown false m = refl

-- a notice is filed where it has a place
pub filed_position : (n : Notice) (xs : List Notice) → is_some (position (alike n) xs) ≡ filed xs n
filed_position n xs = shown _ _ ∙ found n xs

removed : (n : Notice) (xs : List Notice) (i : ℕ) → i < length xs → alike n (get_or xs i n) ≡ true → ((k : ℕ) → k < i → alike n (get_or xs k n) ≡ false) → lifted n xs ≡ remove xs i
removed n [] i h e a = absurd (omega arith)
removed n (x ∷ xs) zero h e a = rw e
removed n (x ∷ xs) (suc i) h e a =
    ap (λ b. cond b xs (x ∷ lifted n xs)) (a 0 (omega arith)) ∙ ap (λ l. x ∷ l) (removed n xs i (omega arith) e (λ k l. a (suc k) (omega arith)))

-- lifting takes out the notice at its place
pub lifted_position : (n : Notice) (xs : List Notice) (i : ℕ) → position (alike n) xs ≡ Some i → lifted n xs ≡ remove xs i
lifted_position n xs i e = let p = position-Some (alike n) xs i n e in removed n xs i p.0 p.1 p.2

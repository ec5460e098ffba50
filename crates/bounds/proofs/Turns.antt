use Rattle.std.proofs.Common.{◌≡◌, ℕ, suc, ◌<◌, List, Some as Just, None as Nothing, Option, sym, ap, ◌∙◌, subst, arith}
use Rattle.std.proofs.lemmas.Bool.{eq-eqb, ne_eqb}
use Rattle.masks.specs.Masks.{bit, Has, Empty, Lowest}
use Rattle.bounds.specs.Lowest.{Found}
use Rattle.bounds.specs.Pairing.{members, without, first, partner, remaining, pairs}
use Rattle.bounds.specs.Rounds.{Taken, Round}
use Rattle.bounds.specs.Lows.{lowest_at}
use Rattle.bounds.specs.Amounts.{count, count_few, count_same}
use Rattle.bounds.specs.Sets.{size_count, without_other, without_like, word_without}
use Rattle.bounds.specs.Groups.{Some, groups_none, groups_more, groups_same, groups_enough, round_fewer}

pub turn_none : (rows : List ℕ) (left : ℕ) → Empty left → pairs rows left ≡ 0
unfolding pairs
turn_none rows left none = groups_none rows (members left) 64 (λ c _. ne_eqb (bit left c) 1 (none c))

lowest_first : (left a : ℕ) → Lowest 64 left a → first (members left) ≡ a
lowest_first left a low =
    lowest_at (members left) 64 a low.fits (eq-eqb (bit left a) 1 low.has) (λ c l. ne_eqb (bit left c) 1 (λ o. absurd (omega (arith, low.bottom c o))))

-- the words' round is the sets'
word_remaining : (rows : List ℕ) (left a : ℕ) (other : Option ℕ) (rest : ℕ) → Found other (partner rows (members left) a) → Taken left a other rest → (c : ℕ) → c < 64 → members rest c ≡ remaining rows (members left) a c
word_remaining rows left a (Just b) rest found (alone, w, v) c l =
    word_without alone b rest v c
    ∙ without_like (members alone) (without (members left) a) b c (word_without left a alone w c)
    ∙ ap (λ (x : ℕ). without (without (members left) a) x c) (sym found.1)
word_remaining rows left a Nothing rest found w c l =
    word_without left a rest w c
    ∙ sym (without_other (without (members left) a) (partner rows (members left) a) c (λ e. absurd (omega (arith, found))))

pub turn_some : (rows : List ℕ) (left a : ℕ) (other : Option ℕ) (rest : ℕ) → Lowest 64 left a → Found other (partner rows (members left) a) → Taken left a other rest → Round rows left rest
unfolding pairs
turn_some rows left a other rest low found took = at (lowest_first left a low) where
  at : first (members left) ≡ a → Round rows left rest
  at e =
      let some : Some (members left) = (omega (arith, low.fits), eq-eqb _ 1 (subst (Has left) (sym e) low.has)) in
      let same : (c : ℕ) → c < 64 → members rest c ≡ remaining rows (members left) (first (members left)) c = subst (λ (x : ℕ). (c : ℕ) → c < 64 → members rest c ≡ remaining rows (members left) x c) (sym e) (word_remaining rows left a other rest found took) in
      let less : count (members rest) < count (members left) = subst (λ (n : ℕ). n < count (members left)) (sym (count_same _ _ same)) (round_fewer rows (members left) some) in
      record {
        counts = groups_more rows (members left) 63 some.0 ∙ ap suc (sym (groups_same rows _ _ 63 same) ∙ sym (groups_enough rows (members rest) 63 (omega (arith, count_few (members left)))));
        fewer = omega (arith, less, size_count rest, size_count left);
      }

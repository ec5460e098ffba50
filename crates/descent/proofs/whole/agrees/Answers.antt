use Rattle.std.proofs.Common.{refl, arith, rules, tests}
use Rattle.std.proofs.lemmas.Iterator.{YieldsList-from_range, cases_from_all}
use Rattle.descent.proofs.Alike.{SuitsEach, each_suits}
use Rattle.descent.proofs.whole.agrees.Goals as goal

-- by hand: the check does not turn a test of all numbers of a range into one of pairs of choices

pub returns : goal.returns
returns c =
    let problem = c.args.problem.now in
    each_suits problem c.args.set.now c.all.result
    (cases_from_all _ _ _ (SuitsEach problem c.args.set.now) (λ a. SuitsEach problem c.args.set.now a → ⊥) c.all.ensures.ran (YieldsList-from_range 0 problem.components problem.components refl (omega arith))
    (λ x q k. search (rules, tests)) (λ x q k. search (rules, tests)))

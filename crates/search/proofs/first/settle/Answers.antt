use Rattle.std.proofs.Common.{arith}
use Rattle.rows.specs.Rows.{at}
use Rattle.search.proofs.Standing.{far_few}
use Rattle.search.proofs.Settling.{found_one, untried_less}
use Rattle.search.proofs.first.settle.Goals as goal

-- by hand: the check does not guess which rows and sets the lemmas on what was tried are about

pub overflow_add-limit : goal.overflow_add-limit
overflow_add-limit g c =
    let problem = c.args.descent.now.problem.now in
    omega (arith, c.requires.least.stands.at_distance.far_is, far_few problem (at c.args.at_hand.set), problem.few)

pub returns-in-Some-below : goal.returns-in-Some-below
returns-in-Some-below g c =
    found_one _ _ c.told-row _ c.requires.inside _ c.requires.least _ c.loop-r.invariant _ c.in-Some.ensures
    _ c.only.ensures c.in-Some-below.found c.in-Some-below.ensures

pub loop-r-preserved : goal.loop-r-preserved
loop-r-preserved g c =
    untried_less _ _ c.told-row _ c.requires.inside _ c.requires.least _ c.loop-r.invariant _ c.in-Some.ensures
    _ c.only.ensures c.in_default-below.ensures _ c.without-left.ensures

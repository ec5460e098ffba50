use Rattle.masks.specs.Masks.{size}
use Rattle.search.proofs.Settling.{Untried}
use Rattle.search.proofs.first.settle.Given as goal

abbrev pub invariant-loop-r : goal.invariant-loop-r
invariant-loop-r g l = Untried l.descent.problem.now l.row l.at_hand.distance l.c l.left

abbrev pub decreases-loop-r : goal.decreases-loop-r
decreases-loop-r g l = size 32 l.left

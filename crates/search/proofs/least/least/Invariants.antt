use Rattle.search.proofs.Standing.{Lowered}
use Rattle.search.proofs.least.least.Given as goal

abbrev pub invariant-loop-found : goal.invariant-loop-found
invariant-loop-found g l = Lowered l.descent.problem.now l.row l.limit l.best

abbrev pub decreases-loop-found : goal.decreases-loop-found
decreases-loop-found g l = l.limit

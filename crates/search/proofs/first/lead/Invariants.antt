use Rattle.search.proofs.Leading.{Fixed}
use Rattle.search.proofs.first.lead.Given as goal

abbrev pub invariant-loop-c : goal.invariant-loop-c
invariant-loop-c g l = Fixed l.descent.problem.now l.first l.initial.best.distance l.c l.row l.best

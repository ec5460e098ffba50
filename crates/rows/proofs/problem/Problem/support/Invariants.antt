use Rattle.masks.specs.Masks.{size}
use Rattle.rows.proofs.Striking.{Gathered}
use Rattle.rows.proofs.problem.Problem.support.Given as goal

abbrev pub invariant-loop-j : goal.invariant-loop-j
invariant-loop-j l = Gathered l.self l.row l.y l.left l.masks

abbrev pub decreases-loop-j : goal.decreases-loop-j
decreases-loop-j l = size 32 l.left

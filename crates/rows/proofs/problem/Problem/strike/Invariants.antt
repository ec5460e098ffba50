use Rattle.masks.specs.Masks.{size}
use Rattle.rows.proofs.Striking.{Through, Striking, Swept, Sweeping}
use Rattle.rows.proofs.problem.Problem.strike.Given as goal

abbrev pub invariant-loop-x : goal.invariant-loop-x
invariant-loop-x l = Through l.self l.initial.row l.row l.changed × Swept l.masks l.x l.initial.row l.row l.changed

abbrev pub invariant-loop-r : goal.invariant-loop-r
invariant-loop-r l =
    Striking l.self l.masks l.x l.initial.row l.initial.changed l.row l.changed l.lost
    × Sweeping l.masks l.x l.initial.row l.initial.changed l.row l.changed l.lost

abbrev pub decreases-loop-r : goal.decreases-loop-r
decreases-loop-r l = size 32 l.lost

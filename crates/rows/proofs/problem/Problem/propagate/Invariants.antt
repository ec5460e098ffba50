use Rattle.std.proofs.Common.{◌≡◌, ◌+◌, ◌*◌, length}
use Rattle.masks.specs.Masks.{size}
use Rattle.rows.specs.Rows.{Narrower, Keeps, weight}
use Rattle.rows.proofs.Striking.{Settling}
use Rattle.rows.proofs.problem.Problem.propagate.Given as goal

abbrev pub invariant-loop-y : goal.invariant-loop-y
invariant-loop-y l =
    Narrower l.self.components l.row l.initial.row × Keeps l.self l.initial.row l.row × (length l.row ≡ 64) × Settling l.self l.row l.fn.pending l.pending

abbrev pub decreases-loop-y : goal.decreases-loop-y
decreases-loop-y l = 2 * weight l.self.components l.row + size 64 l.pending

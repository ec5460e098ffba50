use Rattle.std.proofs.Common.{◌≡◌, length}
use Rattle.descent.proofs.Stack.{Stack, load}
use Rattle.descent.proofs.Descent.below.Given as goal

abbrev pub invariant-loop-height : goal.invariant-loop-height
invariant-loop-height g l = Stack l.self.problem.now l.first l.limit l.rows l.height × (length l.changed ≡ 65)

abbrev pub decreases-loop-height : goal.decreases-loop-height
decreases-loop-height g l = load l.self.problem.now.components l.rows l.height

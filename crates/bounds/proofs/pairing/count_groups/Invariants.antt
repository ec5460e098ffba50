use Rattle.std.proofs.Common.{◌≡◌, ◌+◌, ◌≤◌}
use Rattle.masks.specs.Masks.{size}
use Rattle.bounds.specs.Pairing.{pairs}
use Rattle.bounds.proofs.pairing.count_groups.Given as goal

abbrev pub invariant-loop-rest : goal.invariant-loop-rest
invariant-loop-rest l = (l.groups + pairs l.table.rows l.left ≡ pairs l.table.rows l.pins) × (l.groups + size 64 l.left ≤ 64)

abbrev pub decreases-loop-rest : goal.decreases-loop-rest
decreases-loop-rest l = size 64 l.left

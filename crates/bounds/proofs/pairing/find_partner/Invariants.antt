use Rattle.masks.specs.Masks.{size}
use Rattle.bounds.proofs.Partners.{Looking}
use Rattle.bounds.proofs.pairing.find_partner.Given as goal

abbrev pub invariant-loop-b : goal.invariant-loop-b
invariant-loop-b l = Looking l.table.rows l.left l.a l.rest

abbrev pub decreases-loop-b : goal.decreases-loop-b
decreases-loop-b l = size 64 l.rest

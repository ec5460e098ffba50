use Rattle.std.proofs.Common.{refl}
use Rattle.rows.proofs.Blank.{blank_at}
use Rattle.rows.proofs.Striking.{gathered_none, gathered_more}
use Rattle.rows.proofs.problem.Problem.support.Goals as goal

-- by hand: the check does not guess which rows, before and after, the lemmas on gathering are about

pub loop-j-init : goal.loop-j-init
loop-j-init c = gathered_none _ _ _ _ refl (blank_at 64)

pub loop-j-preserved : goal.loop-j-preserved
loop-j-preserved c =
    gathered_more _ _ _ _ _ c.loop-j.invariant _ _ _ c.in-Some.ensures.has c.without-left.ensures c.add.array_long c.add.ensures

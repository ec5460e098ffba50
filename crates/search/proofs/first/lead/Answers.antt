use Rattle.search.proofs.Leading.{fix}
use Rattle.search.proofs.first.lead.Goals as goal

-- by hand: the check does not guess which rows, before and after, the lemmas on fixing a component are about

pub loop-c-preserved : goal.loop-c-preserved
loop-c-preserved g c =
    fix _ _ _ _ _ _ c.loop-c.invariant c.loop-c-test.true _ c.settle-best.ensures _ c.only.ensures
    c.propagate.new.row c.propagate.array_long c.propagate.ensures.narrower c.propagate.ensures.keeps

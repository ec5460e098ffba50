use Rattle.std.proofs.Common.{arith}
use Rattle.masks.proofs.Sizes.{size_union}
use Rattle.rows.proofs.Rows.{taken_less}
use Rattle.rows.proofs.Striking.{settling_more}
use Rattle.rows.proofs.problem.Problem.propagate.Goals as goal

-- by hand: the check does not guess which rows and sets, before and after, the lemmas on the scan are about

-- the pending component that was taken is pending no more
pub loop-y-smaller-in-Ok : goal.loop-y-smaller-in-Ok
loop-y-smaller-in-Ok c =
    let less = taken_less _ _ _ _ c.in-Some.ensures.fits c.in-Some.ensures.has c.without-pending.ensures in
    omega (arith, less, c.in-Ok.ensures.falls, size_union 64 _ _ _ c.union-pending.ensures)

pub loop-y-preserved-in-Ok : goal.loop-y-preserved-in-Ok
loop-y-preserved-in-Ok c =
    let scan = c.strike.ensures in (
      λ k r l o. c.loop-y.invariant.0 k r l (scan.narrower k r l o),
      λ s a w. scan.keeps s a (c.loop-y.invariant.1 s a w),
      c.strike.array_long,
      settling_more c.args.self.now _ _ _ _ _ _ _ _ c.loop-y.invariant.3 c.without-pending.ensures scan.narrower c.in-Ok.ensures.scanned c.union-pending.ensures,
    )

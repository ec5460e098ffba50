use Rattle.std.proofs.Common.{◌∙◌, arith, length-set}
use Rattle.descent.proofs.Stack.{load_pop, low, split, load_split}
use Rattle.descent.proofs.Descent.below.Goals as goal

-- by hand: the check does not guess which rows of the stack, before and after, the lemmas on it are about

pub loop-height-smaller-in-Barred : goal.loop-height-smaller-in-Barred
loop-height-smaller-in-Barred g c = load_pop _ _ _ c.loop-height-test.true

pub bounds-rows-height-in-Split-2 : goal.bounds-rows-height-in-Split-2
bounds-rows-height-in-Split-2 g c =
    omega (arith, low _ _ _ _ _ c.loop-height.invariant.0 c.loop-height-test.true _ c.examine.array_long _ c.in-Split.ensures _ c.without.ensures _ c.only.ensures)

pub bounds-changed-height-in-Split-2 : goal.bounds-changed-height-in-Split-2
bounds-changed-height-in-Split-2 g c =
    omega (arith, low _ _ _ _ _ c.loop-height.invariant.0 c.loop-height-test.true _ c.examine.array_long _ c.in-Split.ensures _ c.without.ensures _ c.only.ensures)

pub loop-height-smaller : goal.loop-height-smaller
loop-height-smaller g c =
    load_split _ _ _ _ _ c.loop-height.invariant.0 c.loop-height-test.true _ c.examine.array_long _ c.in-Split.ensures _ c.without.ensures _ c.only.ensures

pub loop-height-preserved : goal.loop-height-preserved
loop-height-preserved g c = (
  split _ _ _ _ _ c.loop-height.invariant.0 c.loop-height-test.true _ c.examine.array_long _ c.in-Split.ensures _ c.without.ensures _ c.only.ensures,
  length-set _ _ c.only-in-Split-2.result ∙ length-set _ _ c.only-in-Split.result ∙ c.loop-height.invariant.1,
)

use Rattle.std.proofs.Common.{◌≡◌, ℕ, subst, arith}
use Rattle.masks.proofs.Sizes.{size_none}
use Rattle.rows.proofs.Striking.{Swept, striking_none, strike_one, through_more, struck_empty, swept_none, sweeping_none, sweep_one, swept_more, swept_all}
use Rattle.rows.proofs.problem.Problem.strike.Goals as goal

-- by hand: the check does not guess which rows and sets, before and after, the lemmas on the scan are about

pub loop-x-init : goal.loop-x-init
loop-x-init c = (
  record {
    long = c.told-row;
    narrower = λ k r l o. o;
    keeps = λ s a w. w;
    falls = omega (arith, size_none 64);
  },
  swept_none _ _ _,
)

pub loop-r-init : goal.loop-r-init
loop-r-init c = (striking_none _ _ _ _ _ _ c.loop-x.invariant.0.long c.minus-lost.ensures, sweeping_none _ _ _ _ _ c.minus-lost.ensures)

pub loop-r-preserved : goal.loop-r-preserved
loop-r-preserved c = (
  strike_one _ _ _ _ _ _ _ _ c.loop-r.invariant.0 c.loop-x-test.true
      c.in-Some.r c.in-Some.ensures.fits c.in-Some.ensures.has _ c.without-lost.ensures _ c.without.ensures _ c.with-changed.ensures,
  sweep_one _ _ _ _ _ _ _ c.loop-r.invariant.1 c.args.self.now.components c.loop-x-test.true (omega (arith, c.loop-r.invariant.0.long, c.args.self.now.few)) c.args.self.now.few
      c.in-Some.r _ c.without-lost.ensures _ c.without.ensures _ c.with-changed.ensures,
)

pub loop-x-preserved : goal.loop-x-preserved
loop-x-preserved c = (
  through_more _ _ _ _ _ _ _ _ _ _ c.requires c.loop-x-test.true c.support-masks.ensures c.loop-x.invariant.0 c.loop-r.invariant.0,
  swept_more c.args.self.now _ _ _ _ _ _ _ _ c.loop-x-test.true c.loop-x.invariant.1 c.loop-r.invariant.0.narrower c.loop-r.invariant.1 c.in_default.ensures,
)

pub returns-then-is_empty : goal.returns-then-is_empty
returns-then-is_empty c =
    let one = strike_one _ _ _ _ _ _ _ _ c.loop-r.invariant.0 c.loop-x-test.true
    c.in-Some.r c.in-Some.ensures.fits c.in-Some.ensures.has _ c.without-lost.ensures _ c.without.ensures _ c.with-changed.ensures in
    let all = through_more _ _ _ _ _ _ _ _ _ _ c.requires c.loop-x-test.true c.support-masks.ensures c.loop-x.invariant.0 one in
    let bare = c.is_empty.ensures.0 c.if-is_empty.true in
    record {
      narrower = all.narrower;
      keeps = all.keeps;
      dead = struck_empty c.args.self.now c.args.row.now _ c.loop-x.x c.loop-x-test.true all.keeps bare;
      bare = (c.loop-x-test.true, bare);
      falls = tt;
      scanned = tt;
    }

pub returns-after-loop-x-clause-scanned : goal.returns-after-loop-x-clause-scanned
returns-after-loop-x-clause-scanned c =
    let end : c.loop-x.x ≡ c.args.self.now.components = omega arith in
    swept_all _ _ _ _ _ _ c.support-masks.ensures (subst (λ (x : ℕ). Swept c.support-masks.result x c.args.row.now c.loop-x.row c.loop-x.changed) end c.loop-x.invariant.1)

use Rattle.std.proofs.Common.{arith}
use Rattle.descent.proofs.Pins.{kept_group, pins_moved}
use Rattle.descent.proofs.Descent.least_moved.Goals as goal

-- by hand: the check does not guess the group of kept pins, to which the law of the bound is applied

pub returns : goal.returns
returns g c s a w =
    let opens = c.open_pins-open.ensures in
    let reaches = g.met.B.Bound.reaches c.args.self.now.bound.now c.args.self.now.problem.now.clashing.rows c.open_pins-open.result _ (kept_group c.args.self.now.problem.now c.args.row.now c.open_pins-open.result opens s a w) in
    let moved = pins_moved c.args.self.now.problem.now c.args.row.now c.open_pins-open.result opens s a w _ reaches in
    omega (arith, c.saturating_sub.ensures, c.most_kept-kept.ensures, c.requires, moved)

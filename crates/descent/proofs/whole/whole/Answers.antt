use Rattle.std.proofs.Common.{◌<◌, ◌≤◌, sym, arith}
use Rattle.rows.specs.Rows.{at}
use Rattle.std.proofs.lemmas.Bool.Decides.{not_from_Decides}
use Rattle.descent.specs.Judged.{Barren, Nearer}
use Rattle.descent.proofs.Alike.{sole, alike_agrees, alike_far}
use Rattle.descent.proofs.Options.{if_less}
use Rattle.descent.proofs.whole.whole.Goals as goal

-- by hand: the check does not guess that a set within a settled row is its one set

pub returns-then-not-agrees : goal.returns-then-not-agrees
returns-then-not-agrees c s a w =
    let e = sole c.args.problem.now c.args.row.now c.in_ok-set.set (λ i. c.fits-row i) c.requires c.in_ok-set.ensures s w in
    absurd (not_from_Decides c.agrees.result c.agrees.ensures c.if-not-agrees.true (alike_agrees c.args.problem.now s (at c.in_ok-set.set) e a))

pub returns : goal.returns
returns c =
    let pick = c.in_ok-set.ensures in
    let set = c.in_ok-set.set in
    let problem = c.args.problem.now in
    let near : c.distance-distance.result < c.args.limit → Nearer problem c.args.row.now c.args.limit (record { set = set; distance = c.distance-distance.result }) =
    λ l. record { within = pick.within; agrees = c.agrees.ensures.0 c.if-not-agrees.false; far_is = sym c.distance-distance.ensures; under = l; rest = pick.rest } in
    let far : c.args.limit ≤ c.distance-distance.result → Barren problem c.args.row.now c.args.limit =
    λ l s a w. omega (arith, alike_far problem s (at set) (sole problem c.args.row.now set (λ i. c.fits-row i) c.requires pick s w), c.distance-distance.ensures) in
    rw c.then_some.ensures (if_less c.distance-distance.result c.args.limit _ _ _ near far)

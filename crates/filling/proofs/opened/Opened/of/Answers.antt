use Rattle.std.proofs.Common.{rules, arith}
use Rattle.filling.specs.Filled.{Free}
use Rattle.filling.proofs.Entries.{made}
use Rattle.filling.proofs.opened.Opened.of.Goals as goal

-- by hand: the check does not go from the calls of a closure to the entries that `from_fn` makes

pub invariant_of-result-clause-opening : goal.invariant_of-result-clause-opening
invariant_of-result-clause-opening g c b l =
    let m = g.A.Archive.meaning c.args.archive.now in
    made c.from_fn.ensures.items (λ k x. Free x (m.withdrawn k)) (λ k x q l e. search rules) b 0
    (omega (arith, l, (g.met.A.Archive.sound c.args.archive.now).few_components))

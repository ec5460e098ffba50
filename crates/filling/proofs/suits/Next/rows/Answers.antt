use Rattle.std.proofs.Common.{rules, arith}
use Rattle.rows.specs.Suits.{no_row}
use Rattle.filling.specs.Filled.{SuitingIf}
use Rattle.filling.proofs.Entries.{made}
use Rattle.filling.proofs.Filling.{open_offered}
use Rattle.filling.proofs.suits.Next.rows.Goals as goal

-- by hand: the check does not go from the calls of a closure to the entries that `from_fn` makes

pub returns : goal.returns
returns g c i h =
    let next = c.args.self.now in
    let o = next.opened.now in
    let m = g.A.Archive.meaning o.archive.now in
    let sound = g.met.A.Archive.sound o.archive.now in
    (made c.from_fn.ensures.items (λ k x. SuitingIf m o.opens next.component k x) (λ k x q l e. search rules) i no_row
    (omega (arith, sound.few_releases next.component, open_offered m sound o.opens o.opening next.component i (omega (arith, next.inside, o.all)) h))).suiting h

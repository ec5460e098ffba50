use Rattle.std.proofs.Common.{rules}
use Rattle.filling.specs.Filled.{PartedFrom}
use Rattle.filling.proofs.Entries.{made}
use Rattle.filling.proofs.pins.Pinned.table.Goals as goal

-- by hand: the check does not go from the calls of a closure to the entries that `from_fn` makes

pub returns : goal.returns
returns c a b la lb =
    let p = c.args.self.now in
    (made c.from_fn.ensures.items (λ k x. PartedFrom p.components p.opens.now p.pins.now p.suits.now k x) (λ k x q l e. search rules) a 0 la).same b lb

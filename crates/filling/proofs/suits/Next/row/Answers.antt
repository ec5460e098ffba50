use Rattle.std.proofs.Common.{rules, arith}
use Rattle.filling.specs.Filled.{SuitingAt}
use Rattle.filling.proofs.Entries.{made}
use Rattle.filling.proofs.suits.Next.row.Goals as goal

-- by hand: the check does not go from the calls of a closure to the entries that `from_fn` makes

pub returns : goal.returns
returns g c = record {
  suiting = λ h b l.
      let o = c.args.self.now.opened.now in
      let m = g.A.Archive.meaning o.archive.now in
      (made c.from_fn.ensures.items (λ k x. SuitingAt m o.opens c.args.self.now.component c.args.release k x) (λ k x q l e. search rules) b 0
      (omega (arith, l, (g.met.A.Archive.sound o.archive.now).few_components))).free h;
}

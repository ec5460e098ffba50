use Rattle.std.proofs.Common.{◌≡◌, length}
use Rattle.filling.specs.Filled.{SuitingUpto}
use Rattle.filling.proofs.opened.Opened.suit.Given as goal

abbrev pub invariant-loop-component : goal.invariant-loop-component
invariant-loop-component g l =
    SuitingUpto (g.A.Archive.meaning l.self.archive.now) l.self.opens l.component l.suits × (length l.suits ≡ 64)

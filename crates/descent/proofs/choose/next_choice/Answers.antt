use Rattle.std.proofs.Common.{get_or, arith}
use Rattle.masks.proofs.Sizes.{size_empty}
use Rattle.descent.proofs.choose.next_choice.Goals as goal

-- by hand: the check does not count the members of a word that has none

-- a component with two open releases prefers one
pub returns-in_err-release : goal.returns-in_err-release
returns-in_err-release c =
    absurd (omega (arith, c.in_ok-component.ensures.1, size_empty 32 (get_or c.args.row.now c.in_ok-component.component 0) c.in_err-release.ensures))

use Rattle.std.proofs.Common.{rules}
use Rattle.masks.proofs.Words.{meets_and}
use Rattle.masks.proofs.word.Word.meets.Goals as goal

-- by hand: the check does not apply a lemma to a law of the operators

pub returns : goal.returns
returns g c = meets_and _ _ _ _ (search (rules, g.met.Self.Word.bitand_law)) c.is_empty.ensures

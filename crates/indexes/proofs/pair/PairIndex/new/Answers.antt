use Rattle.indexes.specs.Pairing.{clash_by_pairs}
use Rattle.indexes.proofs.pair.PairIndex.new.Goals as goal

-- by hand: named on the function, the lemma is not reached before the search gives up

pub returns-clause-clash : goal.returns-clause-clash
returns-clause-clash c = clash_by_pairs c.args.components.now c.args.pairs.now

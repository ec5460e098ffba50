use Rattle.indexes.specs.Ranging.{clash_by_ranges}
use Rattle.indexes.proofs.range.RangeIndex.new.Goals as goal

-- by hand: named on the function, the lemma is not reached before the search gives up

pub returns-clause-clash : goal.returns-clause-clash
returns-clause-clash c = clash_by_ranges c.args.components.now c.args.needs.now

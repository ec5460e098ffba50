use Rattle.bounds.proofs.Tables.{blank_clear}
use Rattle.bounds.proofs.table.PinTable.blank.Goals as goal

-- by hand: the check does not look into 64 equal rows

pub returns : goal.returns
returns c a b = blank_clear 64 a b

use Rattle.std.proofs.Common.{refl, arith}
use Rattle.rows.proofs.Blank.{blank_at}
use Rattle.descent.proofs.whole.sole_set.Goals as goal

-- by hand: the check does not look into 64 equal entries

pub loop-c-init : goal.loop-c-init
loop-c-init c = (refl, λ k l. absurd (omega arith), λ k. omega (arith, blank_at 64 k), λ k l. blank_at 64 k)

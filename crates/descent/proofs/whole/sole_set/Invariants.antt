use Rattle.std.proofs.Common.{◌≡◌, ℕ, ◌<◌, ◌≤◌, length}
use Rattle.rows.specs.Rows.{at, Within}
use Rattle.descent.proofs.whole.sole_set.Given as goal

abbrev pub invariant-loop-c : goal.invariant-loop-c
invariant-loop-c l =
    (length l.set ≡ 64) × Within l.c l.row (at l.set) × ((k : ℕ) → at l.set k < 32) × ((k : ℕ) → l.c ≤ k → at l.set k ≡ 0)

use Rattle.std.proofs.Common.{◌≡◌, ℕ, ◌<◌, ◌≤◌, max, length, get_or}
use Rattle.masks.specs.Masks.{bit}
use Rattle.rows.proofs.support.add.Given as goal

abbrev pub invariant-loop-c : goal.invariant-loop-c
invariant-loop-c l =
    ((k j : ℕ) → k < l.c → bit (get_or l.to k 0) j ≡ max (bit (get_or l.initial.to k 0) j) (bit (get_or l.row k 0) j))
    × ((k : ℕ) → l.c ≤ k → get_or l.to k 0 ≡ get_or l.initial.to k 0)
    × (length l.to ≡ 64)

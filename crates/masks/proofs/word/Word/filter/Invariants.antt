use Rattle.std.proofs.Common.{ℕ, true, false, ◌⊎◌}
use Rattle.masks.specs.Masks.{Has, size}
use Rattle.masks.proofs.word.Word.filter.Given as goal

abbrev pub invariant-loop-j : goal.invariant-loop-j
invariant-loop-j g l = let number = g.Self.Word.number in record {
  within : (j : ℕ) → Has (number l.kept) j → Has (number l.fn.self) j;
  still : (j : ℕ) → Has (number l.left) j → Has (number l.fn.self) j × Has (number l.kept) j;
  passed : (j : ℕ) → Has (number l.fn.self) j → (Has (number l.left) j → ⊥) → (goal.F-post g l.test j true × Has (number l.kept) j) ⊎ (goal.F-post g l.test j false × (Has (number l.kept) j → ⊥));
}

abbrev pub decreases-loop-j : goal.decreases-loop-j
decreases-loop-j g l = size g.Self.Word.width (g.Self.Word.number l.left)

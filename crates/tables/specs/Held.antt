use Rattle.std.specs.Prelude.{◌≡◌, ℕ, ◌<◌, ◌≤◌, Option, Result, Some, List, [], ◌∷◌, ◌++◌, length, take, slice_get, MatchOption, MatchResult}
use Rattle.std.specs.List.{remove}
use Rattle.tables.specs.declared.table.Table.{Table}

-- the rows that a table holds, in order
abbrev pub held : {T : Type 0} {n : ℕ} → Table T n → List T
held t = take t.filled t.cells

-- what a push of x answers and leaves: one row more at the end, or x handed back where the table is full
abbrev pub Pushes : {T : Type 0} {n : ℕ} → Table T n → T → Result (Unit {0}) T → Table T n → Type 0
Pushes {n = n} t x r t' = MatchResult r (λ _. (length (held t) < n) × (held t' ≡ held t ++ x ∷ [])) (λ y. (length (held t) ≡ n) × (y ≡ x) × (held t' ≡ held t))

-- what a removal at a place answers and leaves: the row that was there and the gap closed, or none where no row is there
abbrev pub Removes : {T : Type 0} {n : ℕ} → Table T n → ℕ → Option T → Table T n → Type 0
Removes t k r t' = MatchOption r ((length (held t) ≤ k) × (held t' ≡ held t)) (λ x. (k < length (held t)) × (slice_get (held t) k ≡ Some x) × (held t' ≡ remove (held t) k))

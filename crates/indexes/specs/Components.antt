use Rattle.std.specs.Prelude.{ℕ, min, Bool, false, not, ◌&&◌, ◌||◌, List, [], length, get_or, nat_lt, slice_index_or}
use Rattle.std.specs.List.{list_any}
use Rattle.archive.specs.Meaning.{Meaning}
use Rattle.indexes.specs.declared.components.ComponentRow.{ComponentRow}

-- what stands for the row of a component that has none: no releases
abbrev pub absent : ComponentRow
absent = record { releases = 0; withdrawn = [] }

-- how many releases a component has by its row; a count above 32 reads as 32
abbrev pub releases_of : List ComponentRow → ℕ → ℕ
releases_of rows c = min (get_or rows c absent).releases 32

abbrev pub offers : List ComponentRow → ℕ → ℕ → Bool
offers rows c r = nat_lt r (releases_of rows c)

-- not offered, or marked in its component's row
abbrev pub withdraws : List ComponentRow → ℕ → ℕ → Bool
withdraws rows c r = not (offers rows c r) || slice_index_or (get_or rows c absent).withdrawn r false

-- the meaning of an index with these component rows, in which two offered choices clash as given
abbrev pub indexed : List ComponentRow → (ℕ → ℕ → ℕ → ℕ → Bool) → Meaning
indexed rows clashing = record {
  components = length rows;
  releases = releases_of rows;
  withdrawn = withdraws rows;
  clash = λ a i b j. not (offers rows a i && offers rows b j) || clashing a i b j;
}

-- some row that counts parts the choices a:i and b:j
abbrev pub clashing : {X : Type 0} → (X → Bool) → (ℕ → ℕ → ℕ → ℕ → X → Bool) → List X → ℕ → ℕ → ℕ → ℕ → Bool
clashing counts parts xs a i b j = list_any (λ x. counts x && parts a i b j x) xs

-- the meaning of an index with these component rows and these rows: which rows count, and which choices they part
abbrev pub by_rows : {X : Type 0} → (List ComponentRow → X → Bool) → (ℕ → ℕ → ℕ → ℕ → X → Bool) → List ComponentRow → List X → Meaning
by_rows counts parts rows xs = indexed rows (clashing (counts rows) parts xs)

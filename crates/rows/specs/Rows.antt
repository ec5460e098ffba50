use Rattle.std.specs.Prelude.{ℕ, ◌<◌, ◌⊎◌, List, slice_index}
use Rattle.archive.specs.Sets.{moved}
use Rattle.masks.specs.Masks.{Has, Empty, total, size}
use Rattle.rows.specs.Suits.{Suits}
use Rattle.rows.specs.declared.problem.Problem.{Problem}

-- a row has, for each component, the releases that are open: r of c is open
abbrev pub Open : List ℕ → ℕ → ℕ → Type 0
Open row c r = Has (slice_index row c) r

-- a set is here the function that gives each component its release; what the code holds as bytes is the set
abbrev pub at : List ℕ → ℕ → ℕ
at set c = slice_index set c

-- each of the first n choices of s is open in the row
abbrev pub Within : ℕ → List ℕ → (ℕ → ℕ) → Type 0
Within n row s = (c : ℕ) → c < n → Open row c (s c)

-- each choice of s suits each
abbrev pub Agrees : Problem → (ℕ → ℕ) → Type 0
Agrees p s = (a b : ℕ) → a < p.components → b < p.components → Suits p.suits a (s a) b (s b)

-- how many pins s moves
abbrev pub far : Problem → (ℕ → ℕ) → ℕ
far p s = total (λ c. moved (slice_index p.pins c) (s c)) p.components

-- what is open in the row is open in the other
abbrev pub Narrower : ℕ → List ℕ → List ℕ → Type 0
Narrower n row other = (c r : ℕ) → c < n → Open row c r → Open other c r

-- each agreeing set within the row is within the other
abbrev pub Keeps : Problem → List ℕ → List ℕ → Type 0
Keeps p row other = (s : ℕ → ℕ) → Agrees p s → Within p.components row s → Within p.components other s

-- no agreeing set is within the row
abbrev pub Dead : Problem → List ℕ → Type 0
Dead p row = (s : ℕ → ℕ) → Agrees p s → Within p.components row s → ⊥

-- x is a component without an open release
abbrev pub Bare : Problem → List ℕ → ℕ → Type 0
Bare p row x = (x < p.components) × Empty (slice_index row x)

-- some open release of y is suited by the release r of x
abbrev pub Supported : Problem → List ℕ → ℕ → ℕ → ℕ → Type 0
Supported p row y x r = (j : ℕ) × Open row y j × Suits p.suits y j x r

-- y supports each open release
abbrev pub Supports : Problem → List ℕ → ℕ → Type 0
Supports p row y = (x r : ℕ) → x < p.components → Open row x r → Supported p row y x r

-- a scan from y marks each component that lost a release; y supports what is still open, unless it is marked itself
pub record ScannedFrom (p : Problem) (before : List ℕ) (y : ℕ) (after : List ℕ) (changed : ℕ) : Type 0 where
  pub kept : (k : ℕ) → Has changed k ⊎ ((j : ℕ) → Open before k j → Open after k j)
  pub supports : Has changed y ⊎ Supports p after y

-- the masks have, for each component, the releases that suit some open release of y
abbrev pub Support : Problem → List ℕ → ℕ → List ℕ → Type 0
Support p row y masks =
    (x r : ℕ) → x < 64 → (Open masks x r → Supported p row y x r) × (Supported p row y x r → Open masks x r)

-- how many choices are open in the row
abbrev pub weight : ℕ → List ℕ → ℕ
weight n row = total (λ c. size 32 (slice_index row c)) n

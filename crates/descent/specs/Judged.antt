use Rattle.std.specs.Prelude.{◌≡◌, ℕ, ◌<◌, ◌≤◌, List, slice_index}
use Rattle.masks.specs.Masks.{size}
use Rattle.rows.specs.Rows.{at, Open, Within, Agrees, far, Narrower}
use Rattle.rows.specs.declared.problem.Problem.{Problem}
use Rattle.archive.specs.declared.choice.Choice.{Choice}
use Rattle.descent.specs.declared.found.Found.{Found}
use Rattle.descent.specs.declared.below.Verdict.{Verdict}
use Rattle.descent.specs.declared.below.Verdict.TheVariants.{Barred, Whole, Split}

-- no agreeing set within the row is nearer than the limit
abbrev pub Barren : Problem → List ℕ → ℕ → Type 0
Barren p row limit = (s : ℕ → ℕ) → Agrees p s → Within p.components row s → limit ≤ far p s

-- the set agrees, is within the row and nearer than the limit, has its distance, and is 0 past the last component
pub record Nearer (p : Problem) (row : List ℕ) (limit : ℕ) (f : Found) : Type 0 where
  pub within : Within p.components row (at f.set)
  pub agrees : Agrees p (at f.set)
  pub far_is : far p (at f.set) ≡ f.distance
  pub under : f.distance < limit
  pub rest : (c : ℕ) → p.components ≤ c → at f.set c ≡ 0

-- each component has at most one open release
abbrev pub Settled : Problem → List ℕ → Type 0
Settled p row = (c : ℕ) → c < p.components → size 32 (slice_index row c) ≤ 1

-- the choice is open in the row, and not alone there
pub record Splittable (p : Problem) (row : List ℕ) (x : Choice) : Type 0 where
  pub inside : x.component < p.components
  pub fits : x.release < 32
  pub has : Open row x.component x.release
  pub more : 1 < size 32 (slice_index row x.component)

-- the row has come down to another without a loss below the limit, and that can be split at the choice
pub record Splits (p : Problem) (before after : List ℕ) (limit : ℕ) (x : Choice) : Type 0 where
  pub at_choice : Splittable p after x
  pub narrower : Narrower p.components after before
  pub keeps : (s : ℕ → ℕ) → Agrees p s → Within p.components before s → far p s < limit → Within p.components after s

-- what is said of a row is so
abbrev pub Judged : Problem → List ℕ → List ℕ → ℕ → Verdict → Type 0
Judged p before after limit Barred = Barren p before limit
Judged p before after limit (Whole f) = Nearer p before limit f
Judged p before after limit (Split x) = Splits p before after limit x

-- the set has an open release for each component, and is 0 past the last
pub record Picked (p : Problem) (row set : List ℕ) : Type 0 where
  pub within : Within p.components row (at set)
  pub small : (c : ℕ) → at set c < 32
  pub rest : (c : ℕ) → p.components ≤ c → at set c ≡ 0

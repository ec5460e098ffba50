use Rattle.std.specs.Prelude.{◌≡◌, ℕ, ◌<◌, ◌≤◌, ◌⊎◌, List, slice_index}
use Rattle.archive.specs.Sets.{Prefers}
use Rattle.descent.specs.Judged.{Barren}
use Rattle.descent.specs.declared.found.Found.{Found}
use Rattle.rows.specs.Rows.{at, Within, Agrees, far}
use Rattle.rows.specs.declared.problem.Problem.{Problem}

-- s agrees, is within the row, and is at the distance d
pub record At (p : Problem) (row : List ℕ) (d : ℕ) (s : ℕ → ℕ) : Type 0 where
  pub agrees : Agrees p s
  pub within : Within p.components row s
  pub far_is : far p s ≡ d

-- f is such a set, has its distance, and is 0 past the last component
pub record Stands (p : Problem) (row : List ℕ) (f : Found) : Type 0 where
  pub at_distance : At p row f.distance (at f.set)
  pub rest : (c : ℕ) → p.components ≤ c → at f.set c ≡ 0

-- and no agreeing set within the row is nearer
pub record Least (p : Problem) (row : List ℕ) (f : Found) : Type 0 where
  pub stands : Stands p row f
  pub least : Barren p row f.distance

-- f is at the distance d, and no set there has at c what is preferred to its release
pub record Settles (p : Problem) (row : List ℕ) (d c : ℕ) (f : Found) : Type 0 where
  pub stands : Stands p row f
  pub same : f.distance ≡ d
  pub fits : at f.set c < 32
  pub best : (t : ℕ → ℕ) → At p row d t → (at f.set c ≡ t c) ⊎ Prefers (slice_index p.pins c) (at f.set c) (t c)

-- s comes before t: at the lowest of the first n components in which they differ, it has what is preferred
pub record Ahead (p : Problem) (n : ℕ) (s t : ℕ → ℕ) : Type 0 where
  pub place : ℕ
  pub within : place < n
  pub alike : (k : ℕ) → k < place → s k ≡ t k
  pub prefers : Prefers (slice_index p.pins place) (s place) (t place)

-- f is at the distance d, and comes before every other set there
pub record Leads (p : Problem) (row : List ℕ) (d : ℕ) (f : Found) : Type 0 where
  pub stands : Stands p row f
  pub same : f.distance ≡ d
  pub leads : (t : ℕ → ℕ) → At p row d t → ((c : ℕ) → c < p.components → at f.set c ≡ t c) ⊎ Ahead p p.components (at f.set) t

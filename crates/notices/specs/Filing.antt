use Rattle.std.specs.Prelude.{◌≡◌, ◌≤◌, true, false, ◌⊎◌, List, [], ◌∷◌, ◌++◌, length, Result, MatchResult}
use Rattle.archive.specs.Meaning.{Meaning}
use Rattle.archive.specs.declared.choice.Choice.{Choice}
use Rattle.refusals.specs.Refusals.{says, silent, Declines, Ends}
use Rattle.refusals.specs.declared.Refusal.{Refusal}
use Rattle.refusals.specs.declared.Refusal.TheVariants.{NotOffered, OneComponent, AlreadyFiled, NotFiled, NoticesFull}
use Rattle.notices.specs.Notices.{filed, lifted}
use Rattle.notices.specs.declared.notice.Notice.{Notice}
use Rattle.notices.specs.declared.notice.Notice.TheVariants.{Single, Pair}

-- the choice is not offered: its component is past the last one, or has no such release
abbrev pub Missing : Meaning → Choice → Type 0
Missing m x = m.releases x.component ≤ x.release

-- a choice of the notice is not offered
abbrev pub Unoffered : Meaning → Notice → Type 0
Unoffered m (Single x) = Missing m x
Unoffered m (Pair x y) = Missing m x ⊎ Missing m y

-- the halves of a pair are of one component
abbrev pub Own : Notice → Type 0
Own (Single x) = ⊥
Own (Pair x y) = x.component ≡ y.component

-- when filing a notice is declined on a layer that holds the notices ns over an archive that means m
abbrev pub FileSentences : Meaning → List Notice → Notice → Refusal → Type 0
FileSentences m ns n = says NotOffered (Unoffered m n) (says OneComponent (Own n) (says AlreadyFiled (filed ns n ≡ true) (says NoticesFull (64 ≤ length ns) silent)))

-- and when lifting one is
abbrev pub LiftSentences : Meaning → List Notice → Notice → Refusal → Type 0
LiftSentences m ns n = says NotOffered (Unoffered m n) (says OneComponent (Own n) (says NotFiled (filed ns n ≡ false) silent))

-- what both calls test first: both decline by the refusal, or neither does by the first two sentences
abbrev pub Admits : Meaning → List Notice → Notice → Result Unit Refusal → Type 0
Admits m ns n r = MatchResult r (λ _. ¬ Unoffered m n × ¬ Own n) (λ e. Declines (FileSentences m ns n) e × Declines (LiftSentences m ns n) e)

-- what filing answers and which notices it leaves: one more at the end
abbrev pub Files : Meaning → List Notice → Notice → Result Unit Refusal → List Notice → Type 0
Files m ns n r ns' = Ends (FileSentences m ns n) (λ _. ns' ≡ ns ++ n ∷ []) (ns' ≡ ns) r

-- what lifting answers and which notices it leaves: all but that one
abbrev pub Lifts : Meaning → List Notice → Notice → Result Unit Refusal → List Notice → Type 0
Lifts m ns n r ns' = Ends (LiftSentences m ns n) (λ _. ns' ≡ lifted n ns) (ns' ≡ ns) r

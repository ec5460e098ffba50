use Rattle.std.proofs.Common.{◌≡◌, true, List, lit<}
use Rattle.archive.specs.Meaning.{Meaning}
use Rattle.refusals.specs.Refusals.{Declines}
use Rattle.refusals.specs.declared.Refusal.TheVariants.{NotOffered, OneComponent, AlreadyFiled}
use Rattle.refusals.proofs.Declining.{after_silent, after_says, declines_here, declines_later}
use Rattle.notices.specs.Notices.{filed}
use Rattle.notices.specs.Filing.{Unoffered, Own, FileSentences, LiftSentences}
use Rattle.notices.specs.declared.notice.Notice.{Notice}

module _ (m : Meaning) (ns : List Notice) (n : Notice) where
  pub file_unoffered : Unoffered m n → Declines (FileSentences m ns n) NotOffered
  file_unoffered h = declines_here NotOffered (Unoffered m n) _ (after_says _ _ _ _ (lit< tt) (after_says _ _ _ _ (lit< tt) (after_says _ _ _ _ (lit< tt) (after_silent _)))) h

  pub file_own : (Unoffered m n → ⊥) → Own n → Declines (FileSentences m ns n) OneComponent
  file_own u h = declines_later _ _ _ _ u (declines_here OneComponent (Own n) _ (after_says _ _ _ _ (lit< tt) (after_says _ _ _ _ (lit< tt) (after_silent _))) h)

  pub file_filed : (Unoffered m n → ⊥) → (Own n → ⊥) → filed ns n ≡ true → Declines (FileSentences m ns n) AlreadyFiled
  file_filed u o h = declines_later _ _ _ _ u (declines_later _ _ _ _ o (declines_here AlreadyFiled (filed ns n ≡ true) _ (after_says _ _ _ _ (lit< tt) (after_silent _)) h))

  pub lift_unoffered : Unoffered m n → Declines (LiftSentences m ns n) NotOffered
  lift_unoffered h = declines_here NotOffered (Unoffered m n) _ (after_says _ _ _ _ (lit< tt) (after_says _ _ _ _ (lit< tt) (after_silent _))) h

  pub lift_own : (Unoffered m n → ⊥) → Own n → Declines (LiftSentences m ns n) OneComponent
  lift_own u h = declines_later _ _ _ _ u (declines_here OneComponent (Own n) _ (after_says _ _ _ _ (lit< tt) (after_silent _)) h)

-- how both calls decline by their first two sentences
pub ruleset early = (file_unoffered, file_own, lift_unoffered, lift_own)

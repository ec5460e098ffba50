use Rattle.std.proofs.Common.{◌≡◌, ℕ, ◌<◌, Bool, true, false, List, length, get_or, ◌∙◌, inl, inr, arith}
use Rattle.std.proofs.lemmas.Bool.{cases_order}
use Rattle.archive.specs.Meaning.{Meaning, Sound, Offered}
use Rattle.archive.specs.Sets.{Lawful}
use Rattle.archive.specs.Suited.{Suits}

-- a choice that is not withdrawn is offered
pub offered_unbarred : (m : Meaning) → Sound m → (c r : ℕ) → m.withdrawn c r ≡ false → Offered m c r
offered_unbarred m sound c r h =
    elim (cases_order r (m.releases c)) [
      | inl e ↦ absurd (never (sound.withdrawn_past c r (omega arith)) h)
      | inr z ↦ elim z [ inl l ↦ l | inr l ↦ absurd (never (sound.withdrawn_past c r (omega arith)) h) ]
    ]
  where
    never : {b : Bool} → b ≡ true → b ≡ false → ⊥
    never p q = let z : ◌≡◌ {A = ℕ} 0 1 = cc in omega arith

-- by symmetry it is enough to look at the later components
pub lawful_from_suits : (m : Meaning) → Sound m → (s : List ℕ) → length s ≡ m.components → ((a : ℕ) → a < m.components → Suits m s a) → Lawful m s
lawful_from_suits m sound s whole suits = record {
  whole = whole;
  offered = λ c h. offered_unbarred m sound c (get_or s c 0) (suits c h).unbarred;
  unbarred = λ c h. (suits c h).unbarred;
  suited = λ a b h k ne. elim (cases_order a b) [
    | inl e ↦ absurd (ne e)
    | inr z ↦ elim z [ inl l ↦ (suits a h).suited b l k | inr l ↦ sound.symmetric a (get_or s a 0) b (get_or s b 0) ∙ (suits b k).suited a l h ]
  ];
}

pub suits_from_lawful : (m : Meaning) (s : List ℕ) → Lawful m s → (a : ℕ) → a < m.components → Suits m s a
suits_from_lawful m s l a h = record {
  unbarred = l.unbarred a h;
  suited = λ b lt k. l.suited a b h k (λ e. omega arith);
}

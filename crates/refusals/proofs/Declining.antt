use Rattle.std.proofs.Common.{◌≡◌, ◌+◌, ◌<◌, sym, refl, ap, subst, inl, inr, arith, rules}
use Rattle.std.proofs.lemmas.Bool.{cases_order}
use Rattle.refusals.specs.Refusals.{numbered, place, says, silent, Declines, Accepts, OrderTellsApart, NumbersTellApart}
use Rattle.refusals.specs.declared.Refusal.{Refusal}
use Rattle.refusals.specs.declared.Refusal.TheVariants.{ProposalStands, TicketMismatch, NoProposal, NotOffered, OneComponent, AlreadyFiled, NotFiled, NoticesFull, LedgerFull, NoLawfulSet, WrongLength, UnusableFile, MalformedRecord, MalformedName, MalformedVersion, WrongKind, ReleaseOutOfOrder, TableFull, UnknownNeed, NeedsItself, ManifestMismatch}

-- today the order of trying is that of the numbers
pub place_number : (e : Refusal) → place e + 1 ≡ numbered e
unfolding place
place_number ProposalStands = refl
place_number TicketMismatch = refl
place_number NoProposal = refl
place_number NotOffered = refl
place_number OneComponent = refl
place_number AlreadyFiled = refl
place_number NotFiled = refl
place_number NoticesFull = refl
place_number LedgerFull = refl
place_number NoLawfulSet = refl
place_number WrongLength = refl
place_number UnusableFile = refl
place_number MalformedRecord = refl
place_number MalformedName = refl
place_number MalformedVersion = refl
place_number WrongKind = refl
place_number ReleaseOutOfOrder = refl
place_number TableFull = refl
place_number UnknownNeed = refl
place_number NeedsItself = refl
place_number ManifestMismatch = refl

pub numbers_tell_apart : NumbersTellApart
numbers_tell_apart = search rules

pub order_tells_apart : OrderTellsApart
order_tells_apart e f h = numbers_tell_apart e f (omega (arith, place_number e, place_number f))

pub earlier : (e f : Refusal) → numbered e < numbered f → place e < place f
earlier e f h = omega (arith, place_number e, place_number f)

-- every one of these sentences is of a refusal that is tried after x
abbrev pub After : Refusal → (Refusal → Type 0) → Type 0
After x Rest = (f : Refusal) → Rest f → place x < place f

pub after_silent : (x : Refusal) → After x silent
after_silent x f h = absurd h

pub after_says : (x y : Refusal) (Q : Type 0) (Rest : Refusal → Type 0) → numbered x < numbered y → After x Rest → After x (says y Q Rest)
after_says x y Q Rest l a f (inl (e, q)) = subst (λ z. place x < place z) (sym e) (earlier x y l)
after_says x y Q Rest l a f (inr r) = a f r

-- the first sentence holds
pub declines_here : (x : Refusal) (P : Type 0) (Rest : Refusal → Type 0) → After x Rest → P → Declines (says x P Rest) x
declines_here x P Rest a p = record {
  holds = inl (refl, p);
  earliest = λ f l s. elim s [ inl h ↦ absurd (omega (arith, l, ap place h.0)) | inr r ↦ absurd (omega (arith, l, a f r)) ];
}

-- the first sentence does not hold, and the call declines by another
pub declines_later : (x : Refusal) (P : Type 0) (Rest : Refusal → Type 0) (e : Refusal) → (P → ⊥) → Declines Rest e → Declines (says x P Rest) e
declines_later x P Rest e np d = record {
  holds = inr d.holds;
  earliest = λ f l s. elim s [ inl h ↦ np h.1 | inr r ↦ d.earliest f l r ];
}

pub accepts_silent : Accepts silent
accepts_silent e h = h

pub accepts_says : (x : Refusal) (P : Type 0) (Rest : Refusal → Type 0) → (P → ⊥) → Accepts Rest → Accepts (says x P Rest)
accepts_says x P Rest np a e (inl h) = np h.1
accepts_says x P Rest np a e (inr r) = a e r

-- a call declines by at most one refusal
pub declines_once : (Sentences : Refusal → Type 0) (e f : Refusal) → Declines Sentences e → Declines Sentences f → e ≡ f
declines_once S e f a b =
    elim (cases_order (place e) (place f)) [
      | inl h ↦ order_tells_apart e f h
      | inr z ↦ elim z [ inl l ↦ absurd (b.earliest e l a.holds) | inr l ↦ absurd (a.earliest f l b.holds) ]
    ]

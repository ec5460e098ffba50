use Rattle.std.specs.Prelude.{◌≡◌, ℕ, suc, ◌<◌, cond, ◌⊎◌, List, [], ◌∷◌, Ok, Err, Result, ◌==◌}
use Rattle.refusals.specs.declared.Refusal.{Refusal}
use Rattle.refusals.specs.declared.Refusal.TheVariants.{ProposalStands, TicketMismatch, NoProposal, NotOffered, OneComponent, AlreadyFiled, NotFiled, NoticesFull, LedgerFull, NoLawfulSet, WrongLength, UnusableFile, MalformedRecord, MalformedName, MalformedVersion, WrongKind, ReleaseOutOfOrder, TableFull, UnknownNeed, NeedsItself, ManifestMismatch}

-- the number by which a refusal is known outside
abbrev pub numbered : Refusal → ℕ
numbered ProposalStands = 1
numbered TicketMismatch = 2
numbered NoProposal = 3
numbered NotOffered = 4
numbered OneComponent = 5
numbered AlreadyFiled = 6
numbered NotFiled = 7
numbered NoticesFull = 8
numbered LedgerFull = 9
numbered NoLawfulSet = 10
numbered WrongLength = 11
numbered UnusableFile = 12
numbered MalformedRecord = 13
numbered MalformedName = 14
numbered MalformedVersion = 15
numbered WrongKind = 16
numbered ReleaseOutOfOrder = 17
numbered TableFull = 18
numbered UnknownNeed = 19
numbered NeedsItself = 20
numbered ManifestMismatch = 21

-- every refusal, in the order in which a call tries them; a call passes over those that it never meets
abbrev pub tried : List Refusal
tried = ProposalStands ∷ TicketMismatch ∷ NoProposal ∷ NotOffered ∷ OneComponent ∷ AlreadyFiled ∷ NotFiled ∷ NoticesFull ∷ LedgerFull ∷ NoLawfulSet ∷ WrongLength ∷ UnusableFile ∷ MalformedRecord ∷ MalformedName ∷ MalformedVersion ∷ WrongKind ∷ ReleaseOutOfOrder ∷ TableFull ∷ UnknownNeed ∷ NeedsItself ∷ ManifestMismatch ∷ []

-- how many of the list stand before the refusal numbered k
abbrev pub place_in : List Refusal → ℕ → ℕ
place_in [] k = 0
place_in (e ∷ es) k = cond (numbered e == k) 0 (suc (place_in es k))

-- where a refusal stands in the order of trying
unfoldable pub place : Refusal → ℕ
place e = place_in tried (numbered e)

-- the sentences of a call, each with its refusal: x is met where P holds, and the others as the rest has it
abbrev pub says : Refusal → Type 0 → (Refusal → Type 0) → Refusal → Type 0
says x P rest e = ((e ≡ x) × P) ⊎ rest e

-- a call with no sentence left
abbrev pub silent : Refusal → Type 0
silent e = ⊥

-- a call with these sentences declines by e: that sentence holds, and none that is tried earlier does
pub record Declines (Sentences : Refusal → Type 0) (e : Refusal) : Type 0 where
  pub holds : Sentences e
  pub earliest : (f : Refusal) → place f < place e → Sentences f → ⊥

-- a call with these sentences is accepted: none of them holds
abbrev pub Accepts : (Refusal → Type 0) → Type 0
Accepts Sentences = (e : Refusal) → Sentences e → ⊥

-- how a call with these sentences ends: accepted, with what it makes, or declined, with everything as it was
abbrev pub Ends : {T : Type 0} → (Refusal → Type 0) → (T → Type 0) → Type 0 → Result T Refusal → Type 0
Ends Sentences Made Same (Ok x) = Accepts Sentences × Made x
Ends Sentences Made Same (Err e) = Declines Sentences e × Same

-- no two refusals have one number
abbrev pub NumbersTellApart : Type 0
NumbersTellApart = (e f : Refusal) → numbered e ≡ numbered f → e ≡ f

-- no two refusals have one place in the order, so that a call declines by at most one
abbrev pub OrderTellsApart : Type 0
OrderTellsApart = (e f : Refusal) → place e ≡ place f → e ≡ f

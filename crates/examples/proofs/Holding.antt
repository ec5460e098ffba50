use Rattle.std.proofs.Common.{◌≡◌, ℕ, ◌<◌, Bool, true, not, ◌&&◌, ◌||◌, eqb, ltb, ◌⊎◌, List, [], ◌∷◌, length, sym, refl, ◌∙◌, inl, inr, arith}
use Rattle.std.specs.List.{AllByRecursion}
use Rattle.std.proofs.lemmas.Bool.{and_parts, eqb-true, ltb-true, not-true, or_cases}
use Rattle.std.proofs.lemmas.Bool.Decides.{not_from_Decides}
use Rattle.archive.specs.Meaning.{Meaning}
use Rattle.archive.specs.Sets.{Lawful, FirstLeast, Before, distance}
use Rattle.indexes.specs.Pairs.{pair_meaning}
use Rattle.indexes.specs.Ranges.{range_meaning}
use Rattle.examples.specs.Resolving.{Resolving, Resolves, Outcome, no_lawful_set, gives, ComesTo, all_pins}
use Rattle.examples.specs.Table.{WorkedExamples, resolving_examples}
use Rattle.examples.proofs.Testing.{lawful, lawful_decides, leads, leads_first}
use Rattle.examples.proofs.Trying.{every_list, every_list_at}

-- t is not lawful, or moves more pins than s, or moves as many and is s or comes after it
abbrev yields : Meaning → List ℕ → List ℕ → List ℕ → Bool
yields m pins s t = not (lawful m t) || (ltb (distance pins s) (distance pins t) || (eqb (distance pins s) (distance pins t) && leads pins s t))

-- the outcome, tried on every set of offered releases
abbrev comes_to : Meaning → List ℕ → Outcome → Bool
comes_to m pins no_lawful_set = every_list m.components m.releases (λ t. not (lawful m t))
comes_to m pins (gives s moves) = lawful m s && (eqb (distance pins s) moves && every_list m.components m.releases (yields m pins s))

yields_lawful : (m : Meaning) (pins s t : List ℕ) → length s ≡ m.components → yields m pins s t ≡ true → Lawful m t → (distance pins s < distance pins t) ⊎ ((distance pins s ≡ distance pins t) × ((s ≡ t) ⊎ Before pins s t))
yields_lawful m pins s t whole h l =
    elim (or_cases (not (lawful m t)) _ h) [
      | inl e ↦ absurd (not_from_Decides (lawful m t) (lawful_decides m t) (not-true (lawful m t) e) l)
      | inr z ↦ elim (or_cases (ltb (distance pins s) (distance pins t)) _ z) [
        | inl e ↦ inl (ltb-true (distance pins s) (distance pins t) e)
        | inr w ↦ let both = and_parts (eqb (distance pins s) (distance pins t)) (leads pins s t) w in inr (eqb-true (distance pins s) (distance pins t) both.0, leads_first pins s t (whole ∙ sym l.whole) both.1)
      ]
    ]

first_least : (m : Meaning) (pins s : List ℕ) → Lawful m s → every_list m.components m.releases (yields m pins s) ≡ true → FirstLeast m pins s
first_least m pins s lawful-s h = record {
  lawful = lawful-s;
  least = λ t l. elim (each t l) [ inl lt ↦ omega arith | inr q ↦ omega (arith, q.0) ];
  first = λ t l e. elim (each t l) [ inl lt ↦ absurd (omega arith) | inr q ↦ q.1 ];
}
  where
    each : (t : List ℕ) → Lawful m t → (distance pins s < distance pins t) ⊎ ((distance pins s ≡ distance pins t) × ((s ≡ t) ⊎ Before pins s t))
    each t l = yields_lawful m pins s t lawful-s.whole (every_list_at m.components m.releases (yields m pins s) h t l.whole l.offered) l

tested : (m : Meaning) (pins : List ℕ) (x : Outcome) → comes_to m pins x ≡ true → ComesTo m pins x
tested m pins no_lawful_set h = λ t l. not_from_Decides (lawful m t) (lawful_decides m t) (not-true (lawful m t) (every_list_at m.components m.releases (λ t. not (lawful m t)) h t l.whole l.offered)) l
tested m pins (gives s moves) h =
    let given = and_parts (lawful m s) _ h in
    let rest = and_parts (eqb (distance pins s) moves) _ given.1 in
    (first_least m pins s ((lawful_decides m s).0 given.0) rest.1, eqb-true (distance pins s) moves rest.0)

abbrev resolves : Resolving → Bool
resolves x = comes_to (range_meaning x.components x.needs) (all_pins x.pins) x.outcome && comes_to (pair_meaning x.components x.pairs) (all_pins x.pins) x.outcome

abbrev all_resolve : List Resolving → Bool
all_resolve [] = true
all_resolve (x ∷ xs) = resolves x && all_resolve xs

all_tested : (xs : List Resolving) → all_resolve xs ≡ true → AllByRecursion Resolves xs
all_tested [] h = tt
all_tested (x ∷ xs) h =
    let each = and_parts (resolves x) (all_resolve xs) h in
    let both = and_parts (comes_to (range_meaning x.components x.needs) (all_pins x.pins) x.outcome) (comes_to (pair_meaning x.components x.pairs) (all_pins x.pins) x.outcome) each.0 in
    ((tested _ _ x.outcome both.0, tested _ _ x.outcome both.1), all_tested xs each.1)

-- one computation goes through the whole table
pub worked_examples : WorkedExamples
worked_examples = all_tested resolving_examples refl

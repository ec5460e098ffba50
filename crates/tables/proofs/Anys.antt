use Rattle.std.proofs.Common.{◌≡◌, Bool, List, Decides, refl}
use Rattle.std.specs.List.{list_any}
use Rattle.std.proofs.lemmas.Bool.Decides.{Decides-by_or}
use Rattle.tables.specs.Any.{SomeRow}

pub any_same : {X : Type 0} (p q : X → Bool) → ((x : X) → p x ≡ q x) → (xs : List X) → list_any p xs ≡ list_any q xs
any_same p q h xs i = list_any (λ x. h x i) xs

-- the test over the rows tells whether some row has what it tests for
pub any_decides : {X : Type 0} (p : X → Bool) (P : X → Type 0) → ((x : X) → Decides (p x) (P x)) → (xs : List X) → Decides (list_any p xs) (SomeRow P xs)
any_decides p P each xs = Decides-by_or p P (list_any p) each refl (λ _ _. refl) xs

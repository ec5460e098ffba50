use Rattle.std.specs.Prelude.{◌≡◌, ℕ, ◌<◌, ◌≤◌, Bool, true, false, not, ◌&&◌, ◌≢◌, List, length, Decides, ◌==◌, refl}
use Rattle.std.proofs.Common.{sym, ap, subst, arith}
use Rattle.std.proofs.Math.Bool.{and_comm}
use Rattle.std.proofs.lemmas.List.Folds.{list_any_none}
use Rattle.std.proofs.lemmas.Bool.{lt-ltb}
use Rattle.std.proofs.lemmas.Bool.Decides.{nat_tests, Decides-not, Decides-and, Decides-eqb, Decides-at}
use Rattle.archive.specs.Meaning.{Sound}
use Rattle.std.specs.List.{list_any}
use Rattle.tables.specs.Any.{SomeRow}
use Rattle.tables.proofs.Anys.{any_same, any_decides}
use Rattle.indexes.specs.Components.{offers, releases_of, indexed, clashing}
use Rattle.indexes.specs.declared.components.ComponentRow.{ComponentRow}
use Rattle.indexes.specs.Offering.{releases_past, releases_few}

implied : (k p : Bool) → (p ≡ true → k ≡ true) → (k && p) ≡ p
implied k p h = grind arith

denied : (k p : Bool) → (p ≡ true → k ≡ false) → (k && p) ≡ false
denied k p h = grind arith

-- what is asked of the rows of an index: which of them count, and which choices they part
pub record Rows (X : Type 0) (rows : List ComponentRow) (counts : X → Bool) (parts : ℕ → ℕ → ℕ → ℕ → X → Bool) : Type 0 where
  pub own : (c i j : ℕ) (x : X) → parts c i c j x ≡ true → counts x ≡ false
  pub apart : (a i b j : ℕ) (x : X) → offers rows a i ≡ true → offers rows b j ≡ true → a ≢ b → parts a i b j x ≡ true → counts x ≡ true
  pub swap : (a i b j : ℕ) (x : X) → parts a i b j x ≡ parts b j a i x

module _ {X : Type 0} (rows : List ComponentRow) (counts : X → Bool) (parts : ℕ → ℕ → ℕ → ℕ → X → Bool) (laws : Rows X rows counts parts) (xs : List X) where
  own_clash : (a i b j : ℕ) → a ≡ b → clashing counts parts xs a i b j ≡ false
  own_clash a i b j e = subst (λ z. clashing counts parts xs a i z j ≡ false) e (list_any_none _ xs (λ k x l. denied _ _ (laws.own a i j _)))

  -- every row that parts offered choices of two components counts
  apart_clash : (a i b j : ℕ) → offers rows a i ≡ true → offers rows b j ≡ true → a ≢ b → clashing counts parts xs a i b j ≡ list_any (parts a i b j) xs
  apart_clash a i b j p q ne = any_same _ _ (λ x. implied (counts x) (parts a i b j x) (laws.apart a i b j x p q ne)) xs

  -- so the question need not ask of a row whether it counts
  pub asked_own : (a i b j : ℕ) → offers rows a i ≡ true → offers rows b j ≡ true → a ≡ b → false ≡ (indexed rows (clashing counts parts xs)).clash a i b j
  asked_own a i b j p q e = grind (arith, own_clash a i b j e)

  pub asked_apart : (a i b j : ℕ) → offers rows a i ≡ true → offers rows b j ≡ true → a ≢ b → list_any (parts a i b j) xs ≡ (indexed rows (clashing counts parts xs)).clash a i b j
  asked_apart a i b j p q ne = grind (arith, apart_clash a i b j p q ne)

  asked : (a i b j : ℕ) → offers rows a i ≡ true → offers rows b j ≡ true → (not (a == b) && list_any (parts a i b j) xs) ≡ (indexed rows (clashing counts parts xs)).clash a i b j
  asked a i b j p q = grind (arith, nat_tests, asked_own a i b j p q, asked_apart a i b j p q)

  pub clash_decides : (a i b j : ℕ) (P : X → Type 0) → ((x : X) → Decides (parts a i b j x) (P x)) → i < releases_of rows a → j < releases_of rows b → Decides ((indexed rows (clashing counts parts xs)).clash a i b j) ((a ≢ b) × SomeRow P xs)
  clash_decides a i b j P each p q =
      Decides-at _ _ (sym (asked a i b j (lt-ltb i (releases_of rows a) p) (lt-ltb j (releases_of rows b) q)))
      (Decides-and (not (a == b)) (list_any (parts a i b j) xs) (Decides-not (a == b) (Decides-eqb a b)) (any_decides (parts a i b j) P each xs))

  pub indexed_sound : length rows ≤ 64 → Sound (indexed rows (clashing counts parts xs))
  indexed_sound few = record {
    few_components = few;
    few_releases = releases_few rows;
    none_past = releases_past rows;
    withdrawn_past = λ c r h. grind (arith, nat_tests);
    clash_past = λ a i b j h. grind (arith, nat_tests);
    own = λ c i j p q. grind (arith, nat_tests, own_clash c i c j refl);
    symmetric = λ a i b j. let e = any_same _ _ (λ x. ap (λ z. counts x && z) (laws.swap a i b j x)) xs in grind (arith, and_comm (offers rows a i) (offers rows b j));
  }

use Rattle.std.proofs.Common.{◌≡◌, ℕ, zero, suc, ◌<◌, Bool, true, false, not, take, sym, refl, arith, lit<}
use Rattle.archive.specs.Alike.{Alike}
use Rattle.archive.proofs.Below.{every, every_at}
use Rattle.indexes.specs.Components.{releases_of}
use Rattle.indexes.specs.Ranges.{range_meaning}
use Rattle.indexes.specs.Pairs.{pair_meaning}
use Rattle.tour.specs.Example.{components, needs_rows, pair_rows}

abbrev equal : Bool → Bool → Bool
equal true y = y
equal false y = not y

equal_true : (x y : Bool) → equal x y ≡ true → x ≡ y
equal_true true true h = refl
equal_true true false h = sym h
equal_true false true h = h
equal_true false false h = refl

abbrev agrees : ℕ → ℕ → ℕ → ℕ → Bool
agrees a i b j = equal ((range_meaning components needs_rows).clash a i b j) ((pair_meaning components pair_rows).clash a i b j)

-- the two indexes answer alike on every two choices of three components with three releases, which are all and more
all_agree : every 3 (λ a. every 3 (λ i. every 3 (λ b. every 3 (λ j. agrees a i b j)))) ≡ true
all_agree = refl

-- no component past the third offers a release, and none offers a fourth
within : (c r : ℕ) → r < releases_of (take 64 components) c → (c < 3) × (r < 3)
within zero r h = (lit< tt, omega (arith, h))
within (suc zero) r h = (lit< tt, omega (arith, h))
within (suc (suc zero)) r h = (lit< tt, omega (arith, h))
within (suc (suc (suc c))) r h = absurd (omega (arith, h))

pub same_meaning : Alike (range_meaning components needs_rows) (pair_meaning components pair_rows)
same_meaning = record {
  components = refl;
  releases = λ c. refl;
  choices = λ c r h. refl;
  pairs = λ a i b j p q ne.
      let x = within a i p in
      let y = within b j q in
      equal_true _ _ (every_at 3 (λ j. agrees a i b j) (every_at 3 (λ b. every 3 (λ j. agrees a i b j)) (every_at 3 (λ i. every 3 (λ b. every 3 (λ j. agrees a i b j))) (every_at 3 (λ a. every 3 (λ i. every 3 (λ b. every 3 (λ j. agrees a i b j)))) all_agree a x.0) i x.1) b y.0) j y.1);
}

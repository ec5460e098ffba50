use Rattle.std.proofs.Common.{◌≡◌, ℕ, Bool, true, false, ◌||◌, eqb, Decides, refl}
use Rattle.std.proofs.lemmas.Bool.Decides.{Decides-eqb, Decides-and, Decides-or}
use Rattle.archive.specs.Choices.{names, names_each, names_both, Names, NamesEach, NamesBoth}
use Rattle.archive.specs.declared.choice.Choice.{Choice}

pub or_swap : (x y : Bool) → (x || y) ≡ (y || x)
or_swap true true = refl
or_swap true false = refl
or_swap false true = refl
or_swap false false = refl

pub names_decides : (x : Choice) (c r : ℕ) → Decides (names x c r) (Names x c r)
names_decides x c r = Decides-and (eqb x.component c) (eqb x.release r) (Decides-eqb x.component c) (Decides-eqb x.release r)

each_decides : (x y : Choice) (a i b j : ℕ) → Decides (names_each x y a i b j) (NamesEach x y a i b j)
each_decides x y a i b j = Decides-and _ _ (names_decides x a i) (names_decides y b j)

pub both_decides : (x y : Choice) (a i b j : ℕ) → Decides (names_both x y a i b j) (NamesBoth x y a i b j)
both_decides x y a i b j = Decides-or _ _ (each_decides x y a i b j) (each_decides x y b j a i)

pub both_swap : (x y : Choice) (a i b j : ℕ) → names_both x y a i b j ≡ names_both x y b j a i
both_swap x y a i b j = or_swap (names_each x y a i b j) (names_each x y b j a i)

use Rattle.std.specs.Prelude.{◌≡◌, ℕ, false, not, ◌&&◌, ◌||◌, List, ◌==◌, refl}
use Rattle.std.proofs.Common.{ap, ◌∙◌, arith}
use Rattle.std.specs.List.{list_any}
use Rattle.std.proofs.lemmas.List.Folds.{list_any_none}
use Rattle.std.proofs.lemmas.Bool.{eq-eqb}
use Rattle.std.proofs.lemmas.Bool.Decides.{nat_tests}
use Rattle.archive.specs.Choices.{names_both}
use Rattle.archive.specs.Meaning.{Meaning, Sound}
use Rattle.archive.proofs.Naming.{both_swap}
use Rattle.tables.proofs.Anys.{any_same}
use Rattle.notices.specs.Notices.{bars, bars_pair, noticed}
use Rattle.notices.specs.declared.notice.Notice.{Notice}
use Rattle.notices.specs.declared.notice.Notice.TheVariants.{Single, Pair}

own_pair : (c i j : ℕ) (n : Notice) → bars_pair c i c j n ≡ false
own_pair c i j (Single x) = refl
own_pair c i j (Pair x y) = ap (λ z. not z && names_both x y c i c j) (eq-eqb c c refl)

eqb_swap : (a b : ℕ) → (a == b) ≡ (b == a)
eqb_swap a b = grind (arith, nat_tests)

pair_swap : (a i b j : ℕ) (n : Notice) → bars_pair a i b j n ≡ bars_pair b j a i n
pair_swap a i b j (Single x) = refl
pair_swap a i b j (Pair x y) = ap (λ z. not z && names_both x y a i b j) (eqb_swap a b) ∙ ap (λ z. not (b == a) && z) (both_swap x y a i b j)

-- a layer over an archive is an archive
pub noticed_sound : (m : Meaning) (ns : List Notice) → Sound m → Sound (noticed m ns)
noticed_sound m ns h = record {
  few_components = h.few_components;
  few_releases = h.few_releases;
  none_past = h.none_past;
  withdrawn_past = λ c r p. ap (λ z. z || list_any (bars c r) ns) (h.withdrawn_past c r p);
  clash_past = λ a i b j p. ap (λ z. z || list_any (bars_pair a i b j) ns) (h.clash_past a i b j p);
  own = λ c i j p q. ap (λ z. z || list_any (bars_pair c i c j) ns) (h.own c i j p q) ∙ list_any_none (bars_pair c i c j) ns (λ k n l. own_pair c i j _);
  symmetric = λ a i b j. ap (λ z. z || list_any (bars_pair a i b j) ns) (h.symmetric a i b j) ∙ ap (λ z. m.clash b j a i || z) (any_same (bars_pair a i b j) (bars_pair b j a i) (pair_swap a i b j) ns);
}

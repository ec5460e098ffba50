use Rattle.std.proofs.Common.{ℕ, ◌<◌, List, get_or, sym, ◌∙◌, arith}
use Rattle.archive.specs.Meaning.{Meaning}
use Rattle.archive.specs.Sets.{Lawful}
use Rattle.archive.specs.Alike.{Alike}

pub alike_back : {m n : Meaning} → Alike m n → Alike n m
alike_back {m} {n} a = record {
  components = sym a.components;
  releases = λ c. sym (a.releases c);
  choices = λ c r h. let k : r < m.releases c = omega (arith, a.releases c) in sym (a.choices c r k);
  pairs = λ x i y j h l ne. let k : i < m.releases x = omega (arith, a.releases x) in let o : j < m.releases y = omega (arith, a.releases y) in sym (a.pairs x i y j k o ne);
}

-- meanings that agree on what is offered and barred have the same lawful sets
pub lawful_alike : {m n : Meaning} → Alike m n → (s : List ℕ) → Lawful m s → Lawful n s
lawful_alike {m} {n} a s l = record {
  whole = l.whole ∙ a.components;
  offered = λ c h. let k : c < m.components = omega (arith, a.components) in let o : get_or s c 0 < m.releases c = l.offered c k in omega (arith, a.releases c);
  unbarred = λ c h. let k : c < m.components = omega (arith, a.components) in sym (a.choices c (get_or s c 0) (l.offered c k)) ∙ l.unbarred c k;
  suited = λ x y h i ne. let k : x < m.components = omega (arith, a.components) in let o : y < m.components = omega (arith, a.components) in sym (a.pairs x (get_or s x 0) y (get_or s y 0) (l.offered x k) (l.offered y o) ne) ∙ l.suited x y k o ne;
}

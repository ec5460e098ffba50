use Rattle.std.specs.Prelude.{ℕ, Bool, false, cond, not, ◌&&◌, ◌||◌, List, [], ◌∷◌, ◌==◌}
use Rattle.archive.specs.Choices.{names, names_both}
use Rattle.archive.specs.Meaning.{Meaning}
use Rattle.std.specs.List.{list_any}
use Rattle.notices.specs.declared.notice.Notice.{Notice}
use Rattle.notices.specs.declared.notice.Notice.TheVariants.{Single, Pair}

-- the notice bars the choice c:r
abbrev pub bars : ℕ → ℕ → Notice → Bool
bars c r (Single x) = names x c r
bars c r (Pair x y) = false

-- the notice bars a:i together with b:j, choices of two components, in either order
abbrev pub bars_pair : ℕ → ℕ → ℕ → ℕ → Notice → Bool
bars_pair a i b j (Single x) = false
bars_pair a i b j (Pair x y) = not (a == b) && names_both x y a i b j

-- the meaning below, except that the choices in notices are withdrawn too and the pairs in notices clash too
abbrev pub noticed : Meaning → List Notice → Meaning
noticed m ns = record {
  components = m.components;
  releases = m.releases;
  withdrawn = λ c r. m.withdrawn c r || list_any (bars c r) ns;
  clash = λ a i b j. m.clash a i b j || list_any (bars_pair a i b j) ns;
}

-- the two notices are one, a pair read in either order
abbrev pub alike : Notice → Notice → Bool
alike (Single x) (Single u) = names x u.component u.release
alike (Single x) (Pair u v) = false
alike (Pair x y) (Single u) = false
alike (Pair x y) (Pair u v) = names_both x y u.component u.release v.component v.release

-- the notice is among those filed
abbrev pub filed : List Notice → Notice → Bool
filed ns n = list_any (alike n) ns

-- the list with the notice taken out and the gap closed
abbrev pub lifted : Notice → List Notice → List Notice
lifted n [] = []
lifted n (x ∷ xs) = cond (alike n x) xs (x ∷ lifted n xs)

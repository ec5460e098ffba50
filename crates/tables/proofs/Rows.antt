use Rattle.std.proofs.Common.{◌≡◌, ℕ, suc, min, ◌+◌, ◌-◌, ◌<◌, ◌≤◌, List, ◌++◌, length, take, drop, ap, ap₂, sym, ◌∙◌, append_assoc, add-one, arith, take_at, length-append, length-take, length-drop}
use Rattle.std.proofs.Math.Seq.{take-append-add}
use Rattle.std.specs.List.{remove}
use Rattle.std.proofs.lemmas.List.{take_min, take-take, drop-drop}
use Rattle.std.proofs.lemmas.Slice.{between_is, take-put_mid}
use borrow.Rule.Slice.PartMut.{put_mid, mid_of, post_of}
use Rattle.tables.specs.declared.table.Table.{Table}
use Rattle.tables.specs.Held.{held}

pub length_held : {T : Type 0} {n : ℕ} (t : Table T n) → length (held t) ≡ t.filled
length_held t = simp length-take (omega (arith, t.within, t.whole))

-- a table holds at most as many rows as it has room for
pub held_few : {T : Type 0} {n : ℕ} (t : Table T n) → length (held t) ≤ n
held_few t = omega (arith, length_held t, t.within)

-- and at most m, where it has room for no more
pub held_within : {T : Type 0} {n : ℕ} (t : Table T n) (m : ℕ) → n ≤ m → length (held t) ≤ m
held_within t m h = omega (arith, held_few t, h)

-- the first n - 1 cells, after the part from a up to n is turned by one
pub gap_closed : {X : Type 0} (xs ys : List X) (a n : ℕ) → a < length (take n xs) → n ≤ length xs → ys ≡ drop 1 (mid_of a (n - a) xs) ++ take 1 (mid_of a (n - a) xs) → take (n - 1) (put_mid a (n - a) xs ys) ≡ remove (take n xs) a
gap_closed {X} xs ys a n l m e =
    let inside : a < n = omega (arith, length-take n xs) in
    let behind : drop 1 (mid_of a (n - a) xs) ≡ drop (suc a) (take n xs) = ap (drop 1) (between_is xs a n) ∙ drop-drop 1 a (take n xs) ∙ ap (λ k. drop k (take n xs)) (add-one a) in
    let turned : put_mid a (n - a) xs ys ≡ (take a xs ++ drop 1 (mid_of a (n - a) xs)) ++ (take 1 (mid_of a (n - a) xs) ++ post_of a (n - a) xs) = rw e (simp append_assoc) in
    let long : length (take a xs ++ drop 1 (mid_of a (n - a) xs)) ≡ n - 1 = rw behind (simp (length-append, length-drop, length-take) (omega arith)) in
    ap (take (n - 1)) turned ∙ take_at _ _ (n - 1) long ∙ ap₂ (λ u v. u ++ v) (sym (take-take a n xs (omega arith))) behind

-- the first s + k cells, after the k rows that fit are written behind the first s
pub extended : {X : Type 0} (xs ys rows : List X) (s k n : ℕ) → s ≤ n → length xs ≡ n → k ≡ min (length rows) (n - s) → ys ≡ take k rows → take (s + k) (put_mid s (s + k - s) xs ys) ≡ take n (take s xs ++ rows)
extended xs ys rows s k n l m e f =
    let long : length ys ≡ k = rw f (simp length-take (omega arith)) in
    let room : length (take s xs) + (n - s) ≡ n = simp length-take (omega arith) in
    let fit : k ≡ min (n - s) (length rows) = omega arith in
    take-put_mid s (s + k - s) xs ys (s + k) (omega arith) (omega arith) ∙ ap (λ z. take s xs ++ z) (f ∙ ap (λ z. take z rows) fit ∙ take_min (n - s) rows) ∙ sym (take-append-add (take s xs) rows (n - s)) ∙ ap (λ z. take z (take s xs ++ rows)) room

-- Places of a slice, and of a list after a slice of it was written.
use Rattle.std.proofs.Common.{◌≡◌, ℕ, ◌+◌, ◌*◌, ◌/◌, ◌<◌, ◌≤◌, List, length, take, drop, get_or, ap, ◌∙◌, rules, arith}
use Rattle.std.proofs.lemmas.List.{places}
use Rattle.std.proofs.lemmas.Nat.{div-mul-add}
use borrow.Rule.Slice.PartMut.{put_mid}

pub slice_place : {X : Type 0} (xs : List X) (a n k : ℕ) (d : X) → k < n → get_or (take n (drop a xs)) k d ≡ get_or xs (a + k) d
slice_place xs a n k d l = search (rules, places)

pub put_below : {X : Type 0} (xs ys : List X) (a n k : ℕ) (d : X) → k < a → a ≤ length xs
    → get_or (put_mid a n xs ys) k d ≡ get_or xs k d
put_below xs ys a n k d l h = search (rules, places)

pub put_inside : {X : Type 0} (xs ys : List X) (a n k : ℕ) (d : X) → k < n → length ys ≡ n → a ≤ length xs
    → get_or (put_mid a n xs ys) (a + k) d ≡ get_or ys k d
put_inside xs ys a n k d l e h = search (rules, places)

pub put_above : {X : Type 0} (xs ys : List X) (a n k : ℕ) (d : X) → a + n ≤ k → length ys ≡ n → a + n ≤ length xs
    → get_or (put_mid a n xs ys) k d ≡ get_or xs k d
put_above xs ys a n k d l e h = search (rules, places)

pub put_length : {X : Type 0} (xs ys : List X) (a n : ℕ) → length ys ≡ n → a + n ≤ length xs
    → length (put_mid a n xs ys) ≡ length xs
put_length xs ys a n e h = search (rules, places)

pub slice_length : {X : Type 0} (xs : List X) (a n : ℕ) → a + n ≤ length xs → length (take n (drop a xs)) ≡ n
slice_length xs a n h = search (rules, places)

pub length_taken : {X : Type 0} (xs : List X) (n : ℕ) → n ≤ length xs → length (take n xs) ≡ n
length_taken xs n h = search (rules, places)

-- the first r rows of w cells are r rows
pub rows_taken : {X : Type 0} (xs : List X) (r w : ℕ) → 0 < w → r * w ≤ length xs → length (take (r * w) xs) / w ≡ r
rows_taken xs r w h l = let e : r * w ≡ r * w + 0 = omega arith in
    ap (λ n. n / w) (length_taken xs (r * w) l ∙ e) ∙ div-mul-add r w 0 h

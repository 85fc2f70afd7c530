-- Lists that are made of pieces: how long they are, and what stands before and after a place.
use Rattle.std.proofs.Common.{◌≡◌, ℕ, zero, suc, ◌+◌, ◌<◌, ◌≤◌, ◌∙◌, ap, refl, arith, List, [], ◌∷◌, ◌++◌, length, get_or, take, drop, Some}
use Rattle.std.specs.Prelude.{slice_get}
use Rattle.std.specs.List.{flat_map, range_with_len}
use Rattle.std.proofs.lemmas.List.Folds.{length-flat_map-take}
use Rattle.std.proofs.lemmas.List.FromFn.{length-range_with_len, get_or-range_with_len}
use Rattle.std.proofs.lemmas.Option.{get_or_from_slice_get, slice_get_within}

-- a piece is at most as long as is left for it
pub piece_fits : {A B : Type 0} (f : A → List B) (xs : List A) (i : ℕ) (x : A) → slice_get xs i ≡ Some x
    → length (flat_map f (take i xs)) + length (f x) ≤ length (flat_map f xs)
piece_fits f xs i x e =
    omega (arith, length-flat_map-take f xs i x (slice_get_within xs i x e), ap (λ y. length (f y)) (get_or_from_slice_get xs i x x e))

-- numbers in a row
range_take : (a n k : ℕ) → k ≤ n → take k (range_with_len a n) ≡ range_with_len a k
range_take a n zero h = refl
range_take a zero (suc k) h = absurd (omega arith)
range_take a (suc n) (suc k) h = ap (λ ys. a ∷ ys) (range_take (a + 1) n k (omega arith))

pub range_fits : {B : Type 0} (f : ℕ → List B) (n a : ℕ) → a < n
    → length (flat_map f (range_with_len 0 a)) + length (f a) ≤ length (flat_map f (range_with_len 0 n))
range_fits f n a h =
    let fits = length-flat_map-take f (range_with_len 0 n) a 0 (omega (arith, length-range_with_len 0 n)) in
    let here : get_or (range_with_len 0 n) a 0 ≡ a = get_or-range_with_len 0 n a 0 h ∙ omega arith in
    let before : take a (range_with_len 0 n) ≡ range_with_len 0 a = range_take 0 n a (omega arith) in
    omega (arith, fits, ap (λ ys. length (flat_map f ys)) before, ap (λ y. length (f y)) here)

-- what stands before and after a place
pub take_piece : {A : Type 0} (xs ys : List A) → take (length xs) (xs ++ ys) ≡ xs
take_piece [] ys = refl
take_piece (x ∷ xs) ys = ap (λ zs. x ∷ zs) (take_piece xs ys)

pub drop_piece : {A : Type 0} (xs ys : List A) → drop (length xs) (xs ++ ys) ≡ ys
drop_piece [] ys = refl
drop_piece (x ∷ xs) ys = drop_piece xs ys

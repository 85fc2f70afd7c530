-- Texts, and other lists, that are made of pieces, one after the other.
use Rattle.std.proofs.Common.{◌≡◌, ℕ, suc, ◌+◌, ◌-◌, ◌<◌, ◌∙◌, sym, ap, refl, arith, List, [], ◌∷◌, ◌++◌, map, take, drop, append-nil, append_assoc, rules, Some}
use Rattle.std.specs.Prelude.{slice_get}
use Rattle.std.specs.List.{flat_map, range_with_len}
use Rattle.std.proofs.lemmas.Grind.{flat_map-append}
use Rattle.std.proofs.lemmas.List.{take_more, drop_more}
use Rattle.std.proofs.lemmas.List.FromFn.{map-range_with_len_more}
use Rattle.std.proofs.lemmas.Option.{get_or_from_slice_get, slice_get_within}

-- the list up to this place with its item, and from this place on
pub take_at : {A : Type 0} (xs : List A) (i : ℕ) (x : A) → slice_get xs i ≡ Some x → take (i + 1) xs ≡ take i xs ++ x ∷ []
take_at xs i x e =
    take_more xs i x (slice_get_within xs i x e)
    ∙ ap (λ y. take i xs ++ y ∷ []) (get_or_from_slice_get xs i x x e)

pub drop_at : {A : Type 0} (xs : List A) (i : ℕ) (x : A) → slice_get xs i ≡ Some x → drop i xs ≡ x ∷ drop (i + 1) xs
drop_at xs i x e =
    drop_more xs i x (slice_get_within xs i x e) ∙ ap (λ y. y ∷ drop (i + 1) xs) (get_or_from_slice_get xs i x x e)

-- the pieces of a list with one more item
pub piece_last : {A B : Type 0} (f : A → List B) (xs : List A) (x : A) → flat_map f (xs ++ x ∷ []) ≡ flat_map f xs ++ f x
piece_last f xs x = flat_map-append f xs (x ∷ []) ∙ ap (λ ys. flat_map f xs ++ ys) (append-nil (f x))

pub piece_next : {A B : Type 0} (f : A → List B) (xs : List A) (i : ℕ) (x : A) → slice_get xs i ≡ Some x
    → flat_map f (take (i + 1) xs) ≡ flat_map f (take i xs) ++ f x
piece_next f xs i x e = ap (λ ys. flat_map f ys) (take_at xs i x e) ∙ piece_last f (take i xs) x

-- numbers in a row, from `a` on
map_same : {A : Type 0} (xs : List A) → map (λ x. x) xs ≡ xs
map_same [] = refl
map_same (x ∷ xs) = ap (λ ys. x ∷ ys) (map_same xs)

range_more : (a n j : ℕ) → a + n ≡ j → range_with_len a (n + 1) ≡ range_with_len a n ++ j ∷ []
range_more a n j e =
    sym (map_same (range_with_len a (n + 1)))
    ∙ map-range_with_len_more (λ k. k) a n j e
    ∙ ap (λ ks. ks ++ j ∷ []) (map_same (range_with_len a n))

pub range_first : (a n : ℕ) → a < n → range_with_len a (n - a) ≡ a ∷ range_with_len (a + 1) (n - (a + 1))
range_first a n h =
    let e : n - a ≡ suc (n - (a + 1)) = omega arith in
    ap (λ k. range_with_len a k) e

-- the pieces of one more number
pub numbers_more : {B : Type 0} (f : ℕ → List B) (a n j : ℕ) → a + n ≡ j
    → flat_map f (range_with_len a (n + 1)) ≡ flat_map f (range_with_len a n) ++ f j
numbers_more f a n j e = ap (λ ks. flat_map f ks) (range_more a n j e) ∙ piece_last f (range_with_len a n) j

-- the same where the numbers are counted from 0
pub numbers_next : {B : Type 0} (f : ℕ → List B) (n : ℕ)
    → flat_map f (range_with_len 0 (n + 1)) ≡ flat_map f (range_with_len 0 n) ++ f n
numbers_next f n = numbers_more f 0 n n (omega arith)

-- and where they are counted from 1
pub ordinals_next : {B : Type 0} (f : ℕ → List B) (n : ℕ) → 0 < n
    → flat_map f (range_with_len 1 (n + 1 - 1)) ≡ flat_map f (range_with_len 1 (n - 1)) ++ f n
ordinals_next f n some =
    let longer : n + 1 - 1 ≡ n - 1 + 1 = omega arith in
    ap (λ m. flat_map f (range_with_len 1 m)) longer ∙ numbers_more f 1 (n - 1) n (omega arith)

regroup : {A : Type 0} (xs ys zs : List A) → xs ++ ys ++ zs ≡ xs ++ (ys ++ zs)
regroup xs ys zs = search (rules, append_assoc)

-- a list that begins with `old` gains a piece
pub one_gained : {A : Type 0} (old list piece more whole new : List A) → list ≡ old ++ piece → new ≡ list ++ more → whole ≡ piece ++ more
    → new ≡ old ++ whole
one_gained old list piece more whole new e f g =
    f ∙ ap (λ ys. ys ++ more) e ∙ regroup old piece more ∙ ap (λ ys. old ++ ys) (sym g)

-- a text that is followed by `rest` gains the first piece of it
pub one_moved : {A : Type 0} (text piece rest later new whole : List A) → rest ≡ piece ++ later → new ≡ text ++ piece → text ++ rest ≡ whole
    → new ++ later ≡ whole
one_moved text piece rest later new whole e f g =
    ap (λ ys. ys ++ later) f ∙ regroup text piece later ∙ ap (λ ys. text ++ ys) (sym e) ∙ g

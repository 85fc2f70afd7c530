-- Lists by their places: what is taken of one and what is left, and lists of the values of a function.
use Rattle.std.proofs.Common.{◌≡◌, ◌≢◌, ℕ, ◌+◌, ◌<◌, List, [], ◌∷◌, ◌++◌, length, get_or, set, take, drop, sym, inl, inr, ◌∙◌, arith}
use Rattle.std.specs.Prelude.{Some, map, slice_get}
use Rattle.std.specs.List.{range_with_len}
use Rattle.std.proofs.lemmas.Bool.{cases_eq}
use Rattle.std.proofs.lemmas.List.{drop_more, get_or-set_other, get_or-set_same, length-set, take_more}
use Rattle.std.proofs.lemmas.List.FromFn.{fill_by_all, get_or-map-range_with_len, length-map-range_with_len}
use Rattle.std.proofs.lemmas.Option.{get_or_from_slice_get, slice_get_within}

-- what is taken with the item at place i, and what is left from it on
pub taken_at : {A : Type 0} (xs : List A) (i : ℕ) (x : A) → i < length xs → get_or xs i x ≡ x → take (i + 1) xs ≡ take i xs ++ x ∷ []
taken_at xs i x lt is = rw is at (take_more xs i x lt)

pub rest_at : {A : Type 0} (xs : List A) (i : ℕ) (x : A) → i < length xs → get_or xs i x ≡ x → drop i xs ≡ x ∷ drop (i + 1) xs
rest_at xs i x lt is = rw is at (drop_more xs i x lt)

-- the same for an item that was read
pub take_at : {A : Type 0} (xs : List A) (i : ℕ) (x : A) → slice_get xs i ≡ Some x → take (i + 1) xs ≡ take i xs ++ x ∷ []
take_at xs i x e = taken_at xs i x (slice_get_within xs i x e) (get_or_from_slice_get xs i x x e)

pub drop_at : {A : Type 0} (xs : List A) (i : ℕ) (x : A) → slice_get xs i ≡ Some x → drop i xs ≡ x ∷ drop (i + 1) xs
drop_at xs i x e = rest_at xs i x (slice_get_within xs i x e) (get_or_from_slice_get xs i x x e)

-- the value at place k
pub listed_at : {X : Type 0} (f : ℕ → X) (n k : ℕ) (d : X) → k < n → get_or (map f (range_with_len 0 n)) k d ≡ f k
listed_at f n k d lt = get_or-map-range_with_len f 0 n k k d lt (omega arith)

-- a value put at place k, if g is f but for that
pub listed_set : {X : Type 0} (f g : ℕ → X) (n k : ℕ) (x d : X) → k < n → g k ≡ x → ((i : ℕ) → i < n → i ≢ k → g i ≡ f i)
    → set (map f (range_with_len 0 n)) k x ≡ map g (range_with_len 0 n)
listed_set {X} f g n k x d lt here others =
    fill_by_all g (set (map f (range_with_len 0 n)) k x) n d
    (length-set (map f (range_with_len 0 n)) k x ∙ length-map-range_with_len f 0 n) each
  where
    each : (i : ℕ) → i < n → get_or (set (map f (range_with_len 0 n)) k x) i d ≡ g i
    each i h = elim (cases_eq i k) [
      | inl e ↦
          let inside : k < length (map f (range_with_len 0 n)) = omega (arith, length-map-range_with_len f 0 n) in
          rw e (get_or-set_same (map f (range_with_len 0 n)) k x d inside ∙ sym here)
      | inr ne ↦ get_or-set_other (map f (range_with_len 0 n)) k i x d ne ∙ listed_at f n i d h ∙ sym (others i h ne)
    ]

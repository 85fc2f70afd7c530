-- Tests that agree on each item of a list, and tests that none passes.
use Rattle.std.proofs.Common.{◌≡◌, ◌∙◌, ℕ, zero, suc, ◌+◌, ◌<◌, Bool, true, false, ◌&&◌, ◌||◌, List, [], ◌∷◌, ◌++◌, refl, sym, ap, arith}
use Rattle.std.specs.Prelude.{All, Option, Some, None, if◌then◌else◌, filter, find, count_by}
use Rattle.std.specs.List.{flat_map, list_any}
use Rattle.std.proofs.lemmas.List.Elements.{All-head, All-tail}
use Rattle.std.proofs.lemmas.List.Sums.{sum_by-cons}

-- what a test adds to a count
abbrev pub one_if : Bool → ℕ
one_if b = if b then 1 else 0

pub count_same : {X : Type 0} (p q : X → Bool) (xs : List X) → All (λ x. p x ≡ q x) xs → count_by p xs ≡ count_by q xs
count_same p q [] same = refl
count_same p q (x ∷ xs) same =
    sum_by-cons (λ y. if p y then 1 else 0) x xs
    ∙ ap (λ b. (if b then 1 else 0) + count_by p xs) (All-head (λ y. p y ≡ q y) x xs same)
    ∙ ap (λ n. (if q x then 1 else 0) + n) (count_same p q xs (All-tail (λ y. p y ≡ q y) x xs same))
    ∙ sym (sum_by-cons (λ y. if q y then 1 else 0) x xs)

pub find_same : {X : Type 0} (p q : X → Bool) (xs : List X) → All (λ x. p x ≡ q x) xs → find p xs ≡ find q xs
find_same p q [] same = refl
find_same p q (x ∷ xs) same =
    ap (λ b. if b then Some x else find p xs) (All-head (λ y. p y ≡ q y) x xs same)
    ∙ ap (λ o. if q x then Some x else o) (find_same p q xs (All-tail (λ y. p y ≡ q y) x xs same))

pub filter_same : {X : Type 0} (p q : X → Bool) (xs : List X) → All (λ x. p x ≡ q x) xs → filter p xs ≡ filter q xs
filter_same p q [] same = refl
filter_same p q (x ∷ xs) same =
    ap (λ b. if b then x ∷ filter p xs else filter p xs) (All-head (λ y. p y ≡ q y) x xs same)
    ∙ ap (λ ys. if q x then x ∷ ys else ys) (filter_same p q xs (All-tail (λ y. p y ≡ q y) x xs same))

pub any_same : {X : Type 0} (p q : X → Bool) (xs : List X) → All (λ x. p x ≡ q x) xs → list_any p xs ≡ list_any q xs
any_same p q [] same = refl
any_same p q (x ∷ xs) same =
    ap (λ b. b || list_any p xs) (All-head (λ y. p y ≡ q y) x xs same)
    ∙ ap (λ b. q x || b) (any_same p q xs (All-tail (λ y. p y ≡ q y) x xs same))

pub flat_same : {X Y : Type 0} (f g : X → List Y) (xs : List X) → All (λ x. f x ≡ g x) xs → flat_map f xs ≡ flat_map g xs
flat_same f g [] same = refl
flat_same f g (x ∷ xs) same =
    ap (λ ys. ys ++ flat_map f xs) (All-head (λ y. f y ≡ g y) x xs same)
    ∙ ap (λ ys. g x ++ ys) (flat_same f g xs (All-tail (λ y. f y ≡ g y) x xs same))

pub count_none : {X : Type 0} (p : X → Bool) (xs : List X) → All (λ x. p x ≡ false) xs → count_by p xs ≡ 0
count_none p [] none = refl
count_none p (x ∷ xs) none =
    let here : one_if (p x) ≡ 0 = ap one_if (All-head (λ y. p y ≡ false) x xs none) in
    let rest : count_by p xs ≡ 0 = count_none p xs (All-tail (λ y. p y ≡ false) x xs none) in
    sum_by-cons (λ y. if p y then 1 else 0) x xs ∙ (let both : one_if (p x) + count_by p xs ≡ 0 = omega (arith, here, rest) in both)

pub find_none : {X : Type 0} (p : X → Bool) (xs : List X) → All (λ x. p x ≡ false) xs → find p xs ≡ None
find_none p [] none = refl
find_none p (x ∷ xs) none =
    ap (λ b. if b then Some x else find p xs) (All-head (λ y. p y ≡ false) x xs none)
    ∙ find_none p xs (All-tail (λ y. p y ≡ false) x xs none)

-- what a list keeps of what it keeps
pub filter_both : {X : Type 0} (p q : X → Bool) (xs : List X) → filter (λ x. p x && q x) xs ≡ filter q (filter p xs)
filter_both p q [] = refl
filter_both {X} p q (x ∷ xs) = by (p x) refl (filter_both p q xs)
  where
    by : (b : Bool) → p x ≡ b → filter (λ y. p y && q y) xs ≡ filter q (filter p xs)
        → (if (p x && q x) then x ∷ filter (λ y. p y && q y) xs else filter (λ y. p y && q y) xs)
        ≡ filter q (if p x then x ∷ filter p xs else filter p xs)
    by true e same = rw (e, same) refl
    by false e same = rw (e, same) refl

-- a test that all pass
pub filter_all : {X : Type 0} (p : X → Bool) (xs : List X) → All (λ x. p x ≡ true) xs → filter p xs ≡ xs
filter_all p [] all = refl
filter_all p (x ∷ xs) all =
    ap (λ b. if b then x ∷ filter p xs else filter p xs) (All-head (λ y. p y ≡ true) x xs all)
    ∙ ap (λ ys. x ∷ ys) (filter_all p xs (All-tail (λ y. p y ≡ true) x xs all))

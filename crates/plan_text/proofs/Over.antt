-- A test over things that are taken one by one, each after those before it.
use Rattle.std.proofs.Common.{◌≡◌, ◌∙◌, ◌⊎◌, ℕ, zero, suc, ◌+◌, ◌<◌, ◌≤◌, List, [], ◌∷◌, ◌++◌, length, get_or, take, drop, refl, sym, inl, inr, arith, append_assoc}
use Rattle.std.specs.Prelude.{All, Option, Some, None}
use Rattle.std.specs.List.{filter_map}
use Rattle.std.specs.Option.{option_or, option_to_list}
use Rattle.std.proofs.lemmas.List.{append-nil, drop_all}
use Rattle.std.proofs.lemmas.List.Elements.{All-cons, All-head, All-nil, All-tail, filter_map-append}
use Rattle.hyper_model.proofs.ListPlaces.{rest_at, taken_at}
use Rattle.plan_text.specs.Steps.{first_over}

-- a thing that is not refused
pub over-more : {A E : Type 0} (test : List A → A → Option E) (xs : List A) (i : ℕ) (x : A) (total : Option E)
    → i < length xs → get_or xs i x ≡ x → test (take i xs) x ≡ None
    → first_over test (take i xs) (drop i xs) ≡ total → first_over test (take (i + 1) xs) (drop (i + 1) xs) ≡ total
over-more test xs i x total lt is none so = rw (taken_at xs i x lt is) (rw (rest_at xs i x lt is, none) at so)

-- a thing that is refused
pub over-refused : {A E : Type 0} (test : List A → A → Option E) (xs : List A) (i : ℕ) (x : A) (total : Option E) (e : E)
    → i < length xs → get_or xs i x ≡ x → test (take i xs) x ≡ Some e
    → first_over test (take i xs) (drop i xs) ≡ total → total ≡ Some e
over-refused test xs i x total e lt is some so = sym so ∙ rw (rest_at xs i x lt is, some) refl

-- the same, unless memory was wanting
pub over-end : {A E : Type 0} (test : List A → A → Option E) (xs : List A) (i : ℕ) (x : A) (total : Option E) (e wants : E)
    → i < length xs → get_or xs i x ≡ x → (e ≡ wants) ⊎ (test (take i xs) x ≡ Some e)
    → first_over test (take i xs) (drop i xs) ≡ total → (e ≡ wants) ⊎ (total ≡ Some e)
over-end test xs i x total e wants lt is (inl h) so = inl h
over-end test xs i x total e wants lt is (inr h) so = inr (over-refused test xs i x total e lt is h so)

-- nothing is left
pub over-all : {A E : Type 0} (test : List A → A → Option E) (xs : List A) (i : ℕ) (total : Option E)
    → length xs ≤ i → first_over test (take i xs) (drop i xs) ≡ total → total ≡ None
over-all test xs i total ge so = sym so ∙ rw (drop_all i xs ge) refl

-- what is kept of things, and of one thing more
pub filter_map-push : {A B : Type 0} (f : A → Option B) (xs : List A) (x : A)
    → filter_map f (xs ++ x ∷ []) ≡ filter_map f xs ++ option_to_list (f x)
filter_map-push {A} {B} f xs x = filter_map-append f xs (x ∷ []) ∙ rw (one (f x) refl) refl
  where
    one : (o : Option B) → f x ≡ o → filter_map f (x ∷ []) ≡ option_to_list (f x)
    one None h = rw h refl
    one (Some y) h = rw h refl

pub kept-more : {A B : Type 0} (f : A → Option B) (xs : List A) (i : ℕ) (x : A) → i < length xs → get_or xs i x ≡ x
    → filter_map f (take (i + 1) xs) ≡ filter_map f (take i xs) ++ option_to_list (f x)
kept-more f xs i x lt is = rw (taken_at xs i x lt is) (filter_map-push f (take i xs) x)

-- of two steps that refuse nothing, neither does
pub option_or-none : {E : Type 0} (a b : Option E) → option_or a b ≡ None → (a ≡ None) × (b ≡ None)
option_or-none None b h = (refl, h)
option_or-none (Some e) b h = absurd (cc)

-- if nothing is refused, each thing passes after those before it
pub over-each : {A E : Type 0} (test : List A → A → Option E) (before xs : List A) → first_over test before xs ≡ None
    → (i : ℕ) (d : A) → i < length xs → test (before ++ take i xs) (get_or xs i d) ≡ None
over-each test before [] h i d lt = absurd (omega arith)
over-each test before (x ∷ xs) h zero d lt =
    let first = option_or-none (test before x) (first_over test (before ++ x ∷ []) xs) h in
    rw (append-nil before) first.0
over-each test before (x ∷ xs) h (suc i) d lt =
    let first = option_or-none (test before x) (first_over test (before ++ x ∷ []) xs) h in
    let rest = over-each test (before ++ x ∷ []) xs first.1 i d (omega arith) in
    rw append_assoc at rest

-- if nothing is refused, what each thing that passes keeps holds of all together
pub over-kept : {A E : Type 0} (test : List A → A → Option E) (P : List A → Type 0)
    → ((before : List A) (x : A) → test before x ≡ None → P before → P (before ++ x ∷ []))
    → (before xs : List A) → first_over test before xs ≡ None → P before → P (before ++ xs)
over-kept test P keeps before [] h so = rw (append-nil before) so
over-kept test P keeps before (x ∷ xs) h so =
    let first = option_or-none (test before x) (first_over test (before ++ x ∷ []) xs) h in
    let rest = over-kept test P keeps (before ++ x ∷ []) xs first.1 (keeps before x first.0 so) in
    rw append_assoc at rest

-- what holds of each thing that may be kept holds of all that are kept
pub kept-all : {A B : Type 0} (f : A → Option B) (P : B → Type 0) (xs : List A)
    → All (λ x. (y : B) → f x ≡ Some y → P y) xs → All P (filter_map f xs)
kept-all f P [] h = All-nil P
kept-all {A} {B} f P (x ∷ xs) h =
    by (f x) refl (kept-all f P xs (All-tail (λ (a : A). (y : B) → f a ≡ Some y → P y) x xs h))
  where
    by : (o : Option B) → f x ≡ o → All P (filter_map f xs) → All P (filter_map f (x ∷ xs))
    by None e rest = rw e rest
    by (Some y) e rest =
        rw e (All-cons P y (filter_map f xs) (All-head (λ (a : A). (y : B) → f a ≡ Some y → P y) x xs h y e) rest)

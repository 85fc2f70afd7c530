-- A table is that of the values that were given, one by one.
use Rattle.std.proofs.Common.{◌≡◌, ◌≢◌, ◌∙◌, ℕ, ◌+◌, ◌*◌, ◌<◌, List, [], ◌∷◌, ◌++◌, length, set, true, false, refl, sym, ap, subst, arith}
use Rattle.std.specs.Prelude.{All, Bool, if◌then◌else◌, ◌==◌, not, Option, Some, None, find, is_some, map, replicate, unwrap_or}
use Rattle.std.specs.List.{range_with_len}
use Rattle.std.specs.Option.{option_and_then, option_map, option_or, option_to_list}
use Rattle.std.proofs.lemmas.Bool.Decides.{nat_tests}
use Rattle.std.proofs.lemmas.List.{append-nil, get_or-replicate, length-replicate}
use Rattle.std.proofs.lemmas.List.Elements.{All-head, All-tail}
use Rattle.std.proofs.lemmas.List.Folds.{find-append}
use Rattle.std.proofs.lemmas.List.FromFn.{fill_by_all, length-map-range_with_len}
use Rattle.hyper_model.specs.Grid.{cell, zero_grid}
use Rattle.hyper_model.proofs.Grids.{place_within}
use Rattle.hyper_model.proofs.ListPlaces.{listed_at, listed_set}
use Rattle.atom_table.specs.Pairs.{Given, PairTable, given_for, has_value, is_known, pair_of, pair_table_of, table_of, twice, value_of, with_given, with_value}
use Rattle.atom_table.proofs.FirstBelow.{find-same}

-- no value is given
pub pair_table_of-none : (rows cols : ℕ) (known : List Bool) → known ≡ replicate (rows * cols) false
    → record { table = zero_grid rows cols; known = known } ≡ pair_table_of rows cols []
pair_table_of-none rows cols known is =
    let nought : ℕ = 0 in
    let cells : replicate (rows * cols) nought ≡ map (λ (pair : ℕ). nought) (range_with_len 0 (rows * cols)) =
    fill_by_all (λ (pair : ℕ). nought) (replicate (rows * cols) nought) (rows * cols) nought (length-replicate (rows * cols) nought)
    (λ k lt. get_or-replicate (rows * cols) k nought nought lt) in
    let none : replicate (rows * cols) false ≡ map (λ (pair : ℕ). false) (range_with_len 0 (rows * cols)) =
    fill_by_all (λ (pair : ℕ). false) (replicate (rows * cols) false) (rows * cols) false (length-replicate (rows * cols) false)
    (λ k lt. get_or-replicate (rows * cols) k false false lt) in
    rw (cells, is, none) refl

-- the value of a pair, with one value more
value_of-push : (all : List Given) (given : Given) (pair : ℕ)
    → value_of (all ++ given ∷ []) pair ≡ option_or (value_of all pair) (if given.pair == pair then Some given.value else None)
value_of-push all given pair =
    let test : Given → Bool = λ g. g.pair == pair in
    let more : find test (all ++ given ∷ []) ≡ option_or (find test all) (find test (given ∷ [])) = find-append test all (given ∷ []) in
    ap (option_map (λ (g : Given). g.value)) more ∙ by (find (λ (g : Given). g.pair == pair) all) (given.pair == pair)
  where
    by : (o : Option Given) (b : Bool)
        → option_map (λ (g : Given). g.value) (option_or o (if b then Some given else None))
        ≡ option_or (option_map (λ (g : Given). g.value) o) (if b then Some given.value else None)
    by (Some g) b = refl
    by None true = refl
    by None false = refl

value_of-new : (all : List Given) (given : Given) → has_value all given.pair ≡ false
    → value_of (all ++ given ∷ []) given.pair ≡ Some given.value
value_of-new all given fresh = value_of-push all given given.pair ∙ by (value_of all given.pair) (given.pair == given.pair) fresh (grind (arith, nat_tests))
  where
    by : (o : Option ℕ) (b : Bool) → is_some o ≡ false → b ≡ true
        → option_or o (if b then Some given.value else None) ≡ Some given.value
    by None true h e = refl
    by None false h e = absurd (cc)
    by (Some v) b h e = absurd (cc)

value_of-other : (all : List Given) (given : Given) (pair : ℕ) → pair ≢ given.pair
    → value_of (all ++ given ∷ []) pair ≡ value_of all pair
value_of-other all given pair ne = value_of-push all given pair ∙ by (value_of all pair) (given.pair == pair) (grind (arith, nat_tests))
  where
    by : (o : Option ℕ) (b : Bool) → b ≡ false → option_or o (if b then Some given.value else None) ≡ o
    by None false e = refl
    by (Some v) b e = refl
    by None true e = absurd (cc)

-- a new value is put in
pair_table_of-push : (rows cols : ℕ) (all : List Given) (given : Given) → given.pair < rows * cols
    → has_value all given.pair ≡ false
    → with_value (pair_table_of rows cols all) given.pair given.value ≡ pair_table_of rows cols (all ++ given ∷ [])
pair_table_of-push rows cols all given lt fresh =
    let cells : set (map (λ pair. unwrap_or (value_of all pair) 0) (range_with_len 0 (rows * cols))) given.pair given.value
    ≡ map (λ pair. unwrap_or (value_of (all ++ given ∷ []) pair) 0) (range_with_len 0 (rows * cols)) =
    listed_set (λ pair. unwrap_or (value_of all pair) 0) (λ pair. unwrap_or (value_of (all ++ given ∷ []) pair) 0)
    (rows * cols) given.pair given.value 0 lt (ap (λ (o : Option ℕ). unwrap_or o 0) (value_of-new all given fresh))
    (λ i h ne. ap (λ (o : Option ℕ). unwrap_or o 0) (value_of-other all given i ne)) in
    let known : set (map (has_value all) (range_with_len 0 (rows * cols))) given.pair true
    ≡ map (has_value (all ++ given ∷ [])) (range_with_len 0 (rows * cols)) =
    listed_set (has_value all) (has_value (all ++ given ∷ [])) (rows * cols) given.pair true false lt
    (ap (λ (o : Option ℕ). is_some o) (value_of-new all given fresh))
    (λ i h ne. ap (λ (o : Option ℕ). is_some o) (value_of-other all given i ne)) in
    rw (cells, known) refl

-- whether a pair has a value
is_known-of : (rows cols pair : ℕ) (all : List Given) → pair < rows * cols
    → is_known (pair_table_of rows cols all) pair ≡ has_value all pair
is_known-of rows cols pair all lt = listed_at (has_value all) (rows * cols) pair false lt

-- what may be given lies within the table
abbrev pub IsInside : ℕ → ℕ → Option Given → Type 0
IsInside rows cols o = (given : Given) → o ≡ Some given → given.pair < rows * cols

-- it does so if both places lie within it
pub given_for-inside : (rows cols at value : ℕ) (first second : Option ℕ) → ((place : ℕ) → first ≡ Some place → place < rows)
    → ((place : ℕ) → second ≡ Some place → place < cols) → IsInside rows cols (given_for cols at value first second)
given_for-inside rows cols at value None second f s given is = absurd (cc)
given_for-inside rows cols at value (Some first) None f s given is = absurd (cc)
given_for-inside rows cols at value (Some first) (Some second) f s given is =
    let e : pair_of cols first second ≡ given.pair = cc in
    rw (sym e) (place_within rows cols first second (f first refl) (s second refl))

-- a value of its own
pub given_for-value : (width at value : ℕ) (first second : Option ℕ) (given : Given) → given_for width at value first second ≡ Some given
    → given.value ≡ value
given_for-value width at value None second given is = absurd (cc)
given_for-value width at value (Some first) None given is = absurd (cc)
given_for-value width at value (Some first) (Some second) given is = cc

-- the refusal of a value, by the table and by the values before it
pub twice-known : {E : Type 0} (refusal : ℕ → E) (rows cols : ℕ) (all : List Given) (values : PairTable) (o : Option Given)
    → values ≡ pair_table_of rows cols all → IsInside rows cols o
    → option_and_then (twice refusal (is_known values)) o ≡ option_and_then (twice refusal (has_value all)) o
twice-known refusal rows cols all values None is inside = refl
twice-known refusal rows cols all values (Some given) is inside =
    rw (is, is_known-of rows cols given.pair all (inside given refl)) refl

-- the table after a value that is not refused
pub with_given-new : {E : Type 0} (refusal : ℕ → E) (rows cols : ℕ) (all : List Given) (values : PairTable) (o : Option Given)
    → values ≡ pair_table_of rows cols all → IsInside rows cols o
    → option_and_then (twice refusal (has_value all)) o ≡ None
    → with_given values o ≡ pair_table_of rows cols (all ++ option_to_list o)
with_given-new refusal rows cols all values None is inside h = rw (append-nil all) is
with_given-new {E} refusal rows cols all values (Some given) is inside h =
    rw is (pair_table_of-push rows cols all given (inside given refl) (fresh (has_value all given.pair) h))
  where
    fresh : (b : Bool) → (if b then Some (refusal given.at) else None) ≡ None → b ≡ false
    fresh false q = refl
    fresh true q = absurd (cc)

-- the first pair without a value, by the table and by the values
pub first_gap-of : (rows cols : ℕ) (all : List Given) (values : PairTable) → values ≡ pair_table_of rows cols all
    → find (λ pair. not (is_known values pair)) (range_with_len 0 (length values.known))
    ≡ find (λ pair. not (has_value all pair)) (range_with_len 0 (rows * cols))
first_gap-of rows cols all values is =
    let size : length values.known ≡ rows * cols =
    ap (λ (v : PairTable). length v.known) is ∙ length-map-range_with_len (has_value all) 0 (rows * cols) in
    rw size (find-same (λ pair. not (is_known values pair)) (λ pair. not (has_value all pair)) 0 (rows * cols)
    (λ k low high. rw is (ap (λ (b : Bool). not b) (is_known-of rows cols k all (omega arith)))))

-- what holds of all values that are given, and of 0, holds in the table
value-all : (P : ℕ → Type 0) (all : List Given) (pair : ℕ) → All (λ (given : Given). P given.value) all → P 0
    → P (unwrap_or (value_of all pair) 0)
value-all P [] pair each none = none
value-all P (given ∷ all) pair each none =
    by (given.pair == pair) (value-all P all pair (All-tail (λ (g : Given). P g.value) given all each) none)
  where
    by : (b : Bool) → P (unwrap_or (value_of all pair) 0)
        → P (unwrap_or (option_map (λ (g : Given). g.value) (if b then Some given else find (λ (g : Given). g.pair == pair) all)) 0)
    by true rest = All-head (λ (g : Given). P g.value) given all each
    by false rest = rest

pub table_of-all : (P : ℕ → Type 0) (rows cols : ℕ) (all : List Given) (r c : ℕ) → r < rows → c < cols
    → All (λ (given : Given). P given.value) all → P 0 → P (cell (table_of rows cols all) r c)
table_of-all P rows cols all r c h g each none =
    let at : cell (table_of rows cols all) r c ≡ unwrap_or (value_of all (r * cols + c)) 0 =
    listed_at (λ pair. unwrap_or (value_of all pair) 0) (rows * cols) (r * cols + c) 0 (place_within rows cols r c h g) in
    subst P (sym at) (value-all P all (r * cols + c) each none)

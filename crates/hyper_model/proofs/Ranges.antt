-- Lists with an item, or with a few, for each number of a range: how loops build them, and what holds of all items.
use Rattle.std.proofs.Common.{◌≡◌, ℕ, zero, suc, ◌+◌, ◌*◌, ◌<◌, ◌≤◌, List, [], ◌∷◌, ◌++◌, length, get_or, map, All, refl, sym, ap, ap₂, ◌∙◌, arith, append_assoc, length-append}
use Rattle.std.specs.List.{flat_map, range_with_len}
use Rattle.std.proofs.lemmas.List.{append-nil, get_or_append_left, get_or-append-add}
use Rattle.std.proofs.lemmas.List.Concat.{flat_map-append}
use Rattle.std.proofs.lemmas.List.Elements.{All-nil, All-cons, All-append}
use Rattle.std.proofs.lemmas.List.Folds.{flat_map-map}
use Rattle.std.proofs.lemmas.List.FromFn.{length-map-range_with_len, get_or-map-range_with_len, map-range_with_len_more}

-- a loop pushes one item for each number
pub list_more : {X : Type 0} (f : ℕ → X) (before after : List X) (n : ℕ) (item : X)
    → before ≡ map f (range_with_len 0 n) → item ≡ f n → after ≡ before ++ item ∷ []
    → after ≡ map f (range_with_len 0 (n + 1))
list_more f before after n item is_before is_item is_after =
    rw (is_after, is_before, is_item) (sym (map-range_with_len_more f 0 n n (omega arith)))

-- after those that stood there first
pub map_more : {X : Type 0} (f : ℕ → X) (first before after : List X) (n : ℕ) (item : X)
    → before ≡ first ++ map f (range_with_len 0 n) → item ≡ f n → after ≡ before ++ item ∷ []
    → after ≡ first ++ map f (range_with_len 0 (n + 1))
map_more f first before after n item is_before is_item is_after =
    rw (is_after, is_before, is_item, map-range_with_len_more f 0 n n (omega arith))
    (append_assoc first (map f (range_with_len 0 n)) (f n ∷ []))

-- a list of items for each number: one number more
pub flat_next : {X : Type 0} (f : ℕ → List X) (n : ℕ)
    → flat_map f (range_with_len 0 (n + 1)) ≡ flat_map f (range_with_len 0 n) ++ f n
flat_next f n =
    sym (flat_map-map f (λ (i : ℕ). i) (range_with_len 0 (n + 1)))
    ∙ ap (flat_map f) (map-range_with_len_more (λ (i : ℕ). i) 0 n n (omega arith))
    ∙ flat_map-append f (map (λ (i : ℕ). i) (range_with_len 0 n)) (n ∷ [])
    ∙ ap₂ (λ a b. a ++ b) (flat_map-map f (λ (i : ℕ). i) (range_with_len 0 n)) (append-nil (f n))

-- what holds of the items before and of the one that is pushed holds of all
pub all_pushed : {X : Type 0} (P : X → Type 0) (before after : List X) (item : X) → All P before → P item
    → after ≡ before ++ item ∷ [] → All P after
all_pushed P before after item h here is_after =
    rw is_after (All-append P before (item ∷ []) h (All-cons P item [] here (All-nil P)))

-- one item, and then two lists
pub two_more : {X : Type 0} (first item : X) (none one some all next last : List X) → none ≡ [] → item ≡ first
    → one ≡ none ++ item ∷ [] → some ≡ one ++ next → all ≡ some ++ last → all ≡ first ∷ (next ++ last)
two_more first item none one some all next last is_none is_item is_one is_some is_all =
    rw (is_all, is_some, is_one, is_none, is_item) refl

-- a loop pushes a list of items for each number
pub flat_more : {X : Type 0} (f : ℕ → List X) (before after : List X) (n : ℕ)
    → before ≡ flat_map f (range_with_len 0 n) → after ≡ before ++ f n
    → after ≡ flat_map f (range_with_len 0 (n + 1))
flat_more f before after n is_before is_after = is_after ∙ ap (λ xs. xs ++ f n) is_before ∙ sym (flat_next f n)

-- what holds of the item for each number from `first` on holds of all
pub all_from : {X : Type 0} (P : X → Type 0) (f : ℕ → X) (first n : ℕ)
    → ((i : ℕ) → first ≤ i → i < first + n → P (f i)) → All P (map f (range_with_len first n))
all_from P f first zero h = All-nil P
all_from P f first (suc n) h =
    All-cons P (f first) (map f (range_with_len (first + 1) n)) (h first (omega arith) (omega arith))
    (all_from P f (first + 1) n (λ i low high. h i (omega arith) (omega arith)))

-- what holds of the item for each number holds of all
pub all_range : {X : Type 0} (P : X → Type 0) (f : ℕ → X) (n : ℕ) → ((i : ℕ) → i < n → P (f i))
    → All P (map f (range_with_len 0 n))
all_range P f n h = all_from P f 0 n (λ i low high. h i (omega arith))

all_flat_from : {X : Type 0} (P : X → Type 0) (f : ℕ → List X) (first n : ℕ)
    → ((i : ℕ) → first ≤ i → i < first + n → All P (f i)) → All P (flat_map f (range_with_len first n))
all_flat_from P f first zero h = All-nil P
all_flat_from P f first (suc n) h =
    All-append P (f first) (flat_map f (range_with_len (first + 1) n)) (h first (omega arith) (omega arith))
    (all_flat_from P f (first + 1) n (λ i low high. h i (omega arith) (omega arith)))

pub all_flat : {X : Type 0} (P : X → Type 0) (f : ℕ → List X) (n : ℕ) → ((i : ℕ) → i < n → All P (f i))
    → All P (flat_map f (range_with_len 0 n))
all_flat P f n h = all_flat_from P f 0 n (λ i low high. h i (omega arith))

-- a table, row by row: its length, and the item of a row and column
abbrev pub rows_from : {X : Type 0} → (ℕ → ℕ → X) → ℕ → ℕ → ℕ → List X
rows_from f cols first rows = flat_map (λ r. map (f r) (range_with_len 0 cols)) (range_with_len first rows)

length_from : {X : Type 0} (f : ℕ → ℕ → X) (cols first rows : ℕ) → length (rows_from f cols first rows) ≡ rows * cols
length_from f cols first zero = omega arith
length_from f cols first (suc rows) =
    omega (
      arith,
      length-append (map (f first) (range_with_len 0 cols)) (rows_from f cols (first + 1) rows),
      length-map-range_with_len (f first) 0 cols,
      length_from f cols (first + 1) rows,
    )

pub table_length : {X : Type 0} (f : ℕ → ℕ → X) (cols rows : ℕ) → length (rows_from f cols 0 rows) ≡ rows * cols
table_length f cols rows = length_from f cols 0 rows

read_from : {X : Type 0} (f : ℕ → ℕ → X) (cols first rows r c : ℕ) (d : X) → r < rows → c < cols
    → get_or (rows_from f cols first rows) (r * cols + c) d ≡ f (first + r) c
read_from f cols first zero r c d row col = absurd (omega arith)
read_from f cols first (suc rows) zero c d row col =
    let here : 0 * cols + c ≡ c = omega arith in
    let same : first + 0 ≡ first = omega arith in
    let inside : c < length (map (f first) (range_with_len 0 cols)) =
    omega (arith, length-map-range_with_len (f first) 0 cols) in
    ap (λ i. get_or (rows_from f cols first (suc rows)) i d) here
    ∙ get_or_append_left (map (f first) (range_with_len 0 cols)) (rows_from f cols (first + 1) rows) d c inside
    ∙ get_or-map-range_with_len (f first) 0 cols c c d col (omega arith)
    ∙ ap (λ r. f r c) (sym same)
read_from f cols first (suc rows) (suc r) c d row col =
    let there : suc r * cols + c ≡ length (map (f first) (range_with_len 0 cols)) + (r * cols + c) =
    omega (arith, length-map-range_with_len (f first) 0 cols) in
    let same : first + 1 + r ≡ first + suc r = omega arith in
    ap (λ i. get_or (rows_from f cols first (suc rows)) i d) there
    ∙ get_or-append-add (map (f first) (range_with_len 0 cols)) (rows_from f cols (first + 1) rows) (r * cols + c) d
    ∙ read_from f cols (first + 1) rows r c d (omega arith) col
    ∙ ap (λ r. f r c) same

pub table_read : {X : Type 0} (f : ℕ → ℕ → X) (cols rows r c : ℕ) (d : X) → r < rows → c < cols
    → get_or (rows_from f cols 0 rows) (r * cols + c) d ≡ f r c
table_read f cols rows r c d row col =
    read_from f cols 0 rows r c d row col ∙ ap (λ r. f r c) (let same : 0 + r ≡ r = omega arith in same)

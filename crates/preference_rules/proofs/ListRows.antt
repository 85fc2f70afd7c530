-- Rows of lists, written one by one.
use Rattle.std.proofs.Common.{◌≡◌, ◌∙◌, ℕ, suc, ◌+◌, ◌-◌, ◌<◌, ◌≤◌, List, ◌∷◌, ◌++◌, length, map, take, drop, set, get_or, replicate, refl, ap, arith, append_assoc}
use Rattle.std.proofs.lemmas.List.{get_or-append_right, get_or_at, length-map, length-take-le, set_at, take_more}
use Rattle.std.proofs.lemmas.List as lists
use Rattle.hyper_model.specs.Groups.{GroupLists, list_of, no_row, row_of, with_member}
use Rattle.preference_rules.specs.Rows.{with_members}

-- the first j things made into rows, and blank rows after them
abbrev pub made_rows : {A B : Type 0} → (A → B) → B → List A → ℕ → List B
made_rows build blank things j = map build (take j things) ++ replicate (length things - j) blank

blank_left : {B : Type 0} (n j : ℕ) (blank : B) → j < n → replicate (n - j) blank ≡ blank ∷ replicate (n - (j + 1)) blank
blank_left n j blank lt = let e : n - j ≡ suc (n - (j + 1)) = omega arith in rw e refl

rows_made : {A B : Type 0} (build : A → B) (things : List A) (j : ℕ) → j ≤ length things → length (map build (take j things)) ≡ j
rows_made build things j le = length-map (take j things) build ∙ length-take-le j things le

-- the next row is blank
pub blank_at : {A B : Type 0} (build : A → B) (blank d : B) (things : List A) (j : ℕ) → j < length things
    → get_or (made_rows build blank things j) j d ≡ blank
blank_at build blank d things j lt =
    rw (blank_left (length things) j blank lt)
    (get_or_at (map build (take j things)) blank (replicate (length things - (j + 1)) blank) d j (rows_made build things j (omega arith)))

-- one row more
pub made_more : {A B : Type 0} (build : A → B) (blank : B) (things : List A) (j : ℕ) (x : A) → j < length things → get_or things j x ≡ x
    → set (made_rows build blank things j) j (build x) ≡ made_rows build blank things (j + 1)
made_more build blank things j x lt is =
    rw (
      blank_left (length things) j blank lt,
      set_at (map build (take j things)) blank (replicate (length things - (j + 1)) blank) (build x) j (rows_made build things j (omega arith)),
      take_more things j x lt,
      is,
      lists.map-append,
      append_assoc,
    ) refl

-- units written over a row's places, one by one
pub written_more : (old new : List ℕ) (place : ℕ) → place < length new → length old ≡ length new
    → set (take place new ++ drop place old) place (get_or new place 0) ≡ take (place + 1) new ++ drop (place + 1) old
written_more old new place lt same =
    let in_old : place < length old = omega arith in
    let taken : length (take place new) ≡ place = length-take-le place new (omega arith) in
    rw (
      lists.drop_more old place 0 in_old,
      set_at (take place new) (get_or old place 0) (drop (place + 1) old) (get_or new place 0) place taken,
      take_more new place 0 lt,
      append_assoc,
    ) refl

-- one unit more in an atom's list
pub member-put : (rows : GroupLists) (atom place unit : ℕ) (members : List ℕ) → atom < length rows.rows
    → with_member (with_members rows atom members) atom place unit ≡ with_members rows atom (set members place unit)
member-put rows atom place unit members lt =
    let there : row_of (with_members rows atom members) atom ≡ record (row_of rows atom) { members = members } =
    lists.get_or-set_same rows.rows atom (record (row_of rows atom) { members = members }) no_row lt in
    rw (there, lists.set-set) refl

pub put-more : (rows : GroupLists) (atom place unit : ℕ) (new : List ℕ) → atom < length rows.rows → place < length new
    → length (list_of rows atom) ≡ length new → unit ≡ get_or new place 0
    → with_member (with_members rows atom (take place new ++ drop place (list_of rows atom))) atom place unit
    ≡ with_members rows atom (take (place + 1) new ++ drop (place + 1) (list_of rows atom))
put-more rows atom place unit new there lt same is =
    member-put rows atom place unit (take place new ++ drop place (list_of rows atom)) there
    ∙ ap (with_members rows atom)
    (ap (λ u. set (take place new ++ drop place (list_of rows atom)) place u) is ∙ written_more (list_of rows atom) new place lt same)

pub put-all : (rows : GroupLists) (atom place : ℕ) (new : List ℕ) → length new ≤ place → length (list_of rows atom) ≡ length new
    → with_members rows atom (take place new ++ drop place (list_of rows atom)) ≡ with_members rows atom new
put-all rows atom place new le same =
    let old : length (list_of rows atom) ≤ place = omega arith in
    rw (lists.take_all place new le, lists.drop_all place (list_of rows atom) old, lists.append-nil) refl

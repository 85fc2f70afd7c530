-- The rows of groups, written one unit after the other: what is still to come after each place.
use Rattle.std.proofs.Common.{◌≡◌, ℕ, ◌+◌, ◌-◌, ◌<◌, ◌≤◌, ◌∙◌, ap, refl, sym, arith, rules, List, [], ◌∷◌, ◌++◌, Bool, true, false, length, drop, get_or, append_assoc, append-nil}
use Rattle.std.proofs.lemmas.List.{drop_more}
use Rattle.std.specs.Prelude.{if◌then◌else◌}
use Rattle.std.specs.List.{flat_map}
use Rattle.hyper_model.specs.Groups.{put_before, groups_from}
use Rattle.hyper_model.proofs.Grouping.{groups_head}

-- a row with these first fields and a field for each unit
abbrev pub group_row : List ℕ → (ℕ → List ℕ) → List ℕ → List ℕ
group_row first field group = first ++ flat_map field group ++ 10 ∷ []

-- what stands before a unit's field: if a group begins, the end of a row and the first fields of the next
abbrev pub break : List ℕ → Bool → List ℕ
break first begin = if begin then 10 ∷ first else []

-- all rows, without the first fields of the first one
abbrev pub after_first : List ℕ → (ℕ → List ℕ) → List (List ℕ) → List ℕ
after_first first field [] = []
after_first first field (group ∷ groups) = flat_map field group ++ 10 ∷ [] ++ flat_map (group_row first field) groups

-- the text of the units after one that is written, of which each may begin a group
abbrev pub text_left : List ℕ → (ℕ → List ℕ) → List ℕ → List Bool → List ℕ
text_left first field [] begins = 10 ∷ []
text_left first field (n ∷ ns) [] = break first true ++ (field n ++ text_left first field ns [])
text_left first field (n ∷ ns) (begin ∷ begins) = break first begin ++ (field n ++ text_left first field ns begins)

pub rows_after : (first : List ℕ) (field : ℕ → List ℕ) (group : List ℕ) (groups : List (List ℕ))
    → flat_map (group_row first field) (group ∷ groups) ≡ first ++ after_first first field (group ∷ groups)
rows_after first field group groups = search (rules, append_assoc)

put_one : (first : List ℕ) (field : ℕ → List ℕ) (n : ℕ) (begin : Bool) (group : List ℕ) (groups : List (List ℕ))
    → after_first first field (put_before n begin (group ∷ groups))
    ≡ field n ++ (break first begin ++ after_first first field (group ∷ groups))
put_one first field n true group groups =
    ap (λ t. field n ++ [] ++ 10 ∷ [] ++ t) (rows_after first field group groups) ∙ search (rules, append_assoc, append-nil)
put_one first field n false group groups = search (rules, append_assoc)

put_some : (first : List ℕ) (field : ℕ → List ℕ) (n : ℕ) (begin : Bool) (groups : List (List ℕ)) (m : ℕ)
    → (group : List ℕ) × ((more : List (List ℕ)) × (groups ≡ (m ∷ group) ∷ more))
    → after_first first field (put_before n begin groups)
    ≡ field n ++ (break first begin ++ after_first first field groups)
put_some first field n begin groups m h = rw h.1.1 (put_one first field n begin (m ∷ h.0) h.1.0)

pub after_is : (first : List ℕ) (field : ℕ → List ℕ) (n : ℕ) (ns : List ℕ) (begins : List Bool)
    → after_first first field (groups_from (n ∷ ns) begins) ≡ field n ++ text_left first field ns begins
after_is first field n [] [] = search (rules, append_assoc, append-nil)
after_is first field n [] (begin ∷ begins) = search (rules, append_assoc, append-nil)
after_is first field n (m ∷ ms) [] =
    put_some first field n true (groups_from (m ∷ ms) []) m (groups_head m ms [])
    ∙ ap (λ t. field n ++ (break first true ++ t)) (after_is first field m ms [])
after_is first field n (m ∷ ms) (begin ∷ begins) =
    put_some first field n begin (groups_from (m ∷ ms) begins) m (groups_head m ms begins)
    ∙ ap (λ t. field n ++ (break first begin ++ t)) (after_is first field m ms begins)

rows_some : (first : List ℕ) (field : ℕ → List ℕ) (groups : List (List ℕ)) (m : ℕ)
    → (group : List ℕ) × ((more : List (List ℕ)) × (groups ≡ (m ∷ group) ∷ more))
    → flat_map (group_row first field) groups ≡ first ++ after_first first field groups
rows_some first field groups m h = rw h.1.1 (rows_after first field (m ∷ h.0) h.1.0)

-- after the first unit's field all rows are still to come, but for that field and what is before it
pub rows_start : (first : List ℕ) (field : ℕ → List ℕ) (members : List ℕ) (begins : List Bool) → 0 < length members
    → flat_map (group_row first field) (groups_from members begins)
    ≡ first ++ (field (get_or members 0 0) ++ text_left first field (drop 1 members) begins)
rows_start first field [] begins h = absurd (let f : ⊥ = omega arith in f)
rows_start first field (m ∷ ms) begins h =
    rows_some first field (groups_from (m ∷ ms) begins) m (groups_head m ms begins)
    ∙ ap (λ t. first ++ t) (after_is first field m ms begins)

left_more : (first : List ℕ) (field : ℕ → List ℕ) (ns more : List ℕ) (bs begins : List Bool) (n : ℕ) (begin : Bool)
    → ns ≡ n ∷ more → bs ≡ begin ∷ begins
    → text_left first field ns bs ≡ break first begin ++ (field n ++ text_left first field more begins)
left_more first field ns more bs begins n begin e f = rw (e, f) refl

-- a step to the next unit
pub left_next : (first : List ℕ) (field : ℕ → List ℕ) (members : List ℕ) (begins : List Bool) (place : ℕ) (d : Bool)
    → 1 ≤ place → place < length members → length begins + 1 ≡ length members
    → text_left first field (drop place members) (drop (place - 1) begins)
    ≡ break first (get_or begins (place - 1) d)
    ++ (field (get_or members place 0) ++ text_left first field (drop (place + 1) members) (drop (place + 1 - 1) begins))
left_next first field members begins place d least small each =
    let early : place - 1 < length begins = omega arith in
    let step : place - 1 + 1 ≡ place + 1 - 1 = omega arith in
    left_more first field (drop place members) (drop (place + 1) members) (drop (place - 1) begins) (drop (place + 1 - 1) begins)
    (get_or members place 0) (get_or begins (place - 1) d)
    (drop_more members place 0 small)
    (drop_more begins (place - 1) d early ∙ ap (λ k. get_or begins (place - 1) d ∷ drop k begins) step)

-- the text when the first unit is written
pub start_text : (old one text first : List ℕ) (field : ℕ → List ℕ) (members : List ℕ) (begins : List Bool)
    → 0 < length members → one ≡ old ++ first → text ≡ one ++ field (get_or members 0 0)
    → text ++ text_left first field (drop 1 members) begins ≡ old ++ flat_map (group_row first field) (groups_from members begins)
start_text old one text first field members begins some e f =
    ap (λ t. t ++ text_left first field (drop 1 members) begins) (f ∙ ap (λ t. t ++ field (get_or members 0 0)) e)
    ∙ search (rules, append_assoc)
    ∙ ap (λ t. old ++ t) (sym (rows_start first field members begins some))

-- the text when one more unit is written
pub next_text : (old one text whole first : List ℕ) (field : ℕ → List ℕ) (members : List ℕ) (begins : List Bool) (place : ℕ) (d : Bool)
    → 1 ≤ place → place < length members → length begins + 1 ≡ length members
    → old ++ text_left first field (drop place members) (drop (place - 1) begins) ≡ whole
    → one ≡ old ++ break first (get_or begins (place - 1) d) → text ≡ one ++ field (get_or members place 0)
    → text ++ text_left first field (drop (place + 1) members) (drop (place + 1 - 1) begins) ≡ whole
next_text old one text whole first field members begins place d least small each so_far e f =
    let later = text_left first field (drop (place + 1) members) (drop (place + 1 - 1) begins) in
    let b = break first (get_or begins (place - 1) d) in
    let n = field (get_or members place 0) in
    let grouped : old ++ b ++ n ++ later ≡ old ++ (b ++ (n ++ later)) = search (rules, append_assoc) in
    ap (λ t. t ++ later) (f ∙ ap (λ t. t ++ n) e)
    ∙ grouped
    ∙ ap (λ t. old ++ t) (sym (left_next first field members begins place d least small each))
    ∙ so_far

-- The lists of drafts that no record and no list is refused for.
use Rattle.std.proofs.Common.{◌≡◌, ◌∙◌, ◌⊎◌, ℕ, zero, suc, ◌+◌, ◌<◌, true, false, List, [], ◌∷◌, ◌++◌, length, get_or, set, take, drop, replicate, refl, sym, ap, inl, inr, arith}
use Rattle.std.specs.Prelude.{Bool, not, if◌then◌else◌, All, Option, Some, None, Ok, Err, map}
use Rattle.std.specs.List.{range_with_len}
use Rattle.std.specs.Option.{option_or}
use Rattle.std.proofs.lemmas.List as lists
use Rattle.std.proofs.lemmas.List.Elements.{All-from_get_or}
use Rattle.hyper_model.specs.Acceptance.{IsFullList}
use Rattle.hyper_model.specs.Groups.{AtomList, GroupLists, no_row, row_of, with_joined}
use Rattle.plan_text.specs.declared.record.Record.{Record}
use Rattle.plan_text.specs.Steps.{first_over}
use Rattle.plan_text.proofs.Over.{over-each}
use Rattle.preference_rules.specs.Drafts.{Draft, IsFilled, draft_of, draft_refusal, draft_rows, drafts_of, drafts_refusal, no_draft}
use Rattle.preference_rules.specs.Given.{given_lists, given_lists_of, holds_each, list_refusal, lists_refusal, twice_records_refusal}
use Rattle.preference_rules.specs.Lists.{given_groups, row_of_groups}
use Rattle.preference_rules.specs.Rows.{with_begins, with_members, with_row}
use Rattle.preference_rules.specs.declared.refusal.ListRefusal.{ListRefusal}
use Rattle.preference_rules.specs.declared.refusal.ListRefusal.TheVariants.{ListNotWhole, MissingList}
use Rattle.preference_rules.proofs.CentredRows.{blank_row}
use Rattle.preference_rules.proofs.ListRows.{made_more, made_rows}
use Rattle.preference_rules.proofs.DraftSteps.{draft_at-drafts_of, length-drafts_of}
use Rattle.preference_rules.proofs.FullLists.{begins_each, first_begins, full-length, given_within, holds_each-once}

-- a list that passes holds each unit
passed_holds : (units before : ℕ) (draft : Draft) → draft_refusal units before draft ≡ None → holds_each units draft.row.members ≡ true
passed_holds units before draft h = by draft.is_listed (holds_each units draft.row.members) h
  where
    by : (listed whole : Bool)
        → (if not listed then Some (MissingList (before + 1)) else if not whole then Some (ListNotWhole (before + 1)) else None) ≡ None
        → whole ≡ true
    by true true q = refl
    by true false q = absurd (cc)
    by false whole q = absurd (cc)

pub passed_full : (units atoms : List (List ℕ)) (records : List Record) → 0 < length units
    → drafts_refusal (length units) (drafts_of units atoms records) ≡ None
    → (j : ℕ) → j < length atoms → IsFullList (length units) (row_of_groups (given_groups units atoms records j)).members
passed_full units atoms records some h j lt =
    let inside : j < length (drafts_of units atoms records) = omega (arith, length-drafts_of units atoms records) in
    let test : List Draft → Draft → Option ListRefusal = λ before. draft_refusal (length units) (length before) in
    let each = over-each test [] (drafts_of units atoms records) h j no_draft inside in
    let passed = rw (draft_at-drafts_of units atoms records j lt) at each in
    record {
      within = given_within units atoms j records some;
      once = holds_each-once (length units) (row_of_groups (given_groups units atoms records j)).members
          (passed_holds (length units) (length ([] ++ take j (drafts_of units atoms records))) (draft_of units atoms records j) passed);
    }

pub filled_from : (units atoms : List (List ℕ)) (records : List Record) → 0 < length units
    → drafts_refusal (length units) (drafts_of units atoms records) ≡ None → All (IsFilled (length units)) (drafts_of units atoms records)
filled_from units atoms records some h =
    All-from_get_or (IsFilled (length units)) (drafts_of units atoms records) no_draft (λ j lt. one j (omega (arith, length-drafts_of units atoms records)))
  where
    one : (j : ℕ) → j < length atoms → IsFilled (length units) (get_or (drafts_of units atoms records) j no_draft)
    one j lt =
        let long : length (row_of_groups (given_groups units atoms records j)).members ≡ length units =
        full-length (length units) (row_of_groups (given_groups units atoms records j)).members (passed_full units atoms records some h j lt) in
        rw (draft_at-drafts_of units atoms records j lt) (record {
          members = long;
          begins = begins_each (given_groups units atoms records j) ∙ long;
          first = first_begins (given_groups units atoms records j);
        })

map_map : {A B C : Type 0} (g : B → C) (f : A → B) (xs : List A) → map g (map f xs) ≡ map (λ x. g (f x)) xs
map_map g f [] = refl
map_map g f (x ∷ xs) = ap (λ rest. g (f x) ∷ rest) (map_map g f xs)

pub draft_rows-drafts_of : (units atoms : List (List ℕ)) (records : List Record)
    → draft_rows (length units) (drafts_of units atoms records) ≡ given_lists units atoms records
draft_rows-drafts_of units atoms records =
    rw (map_map (λ (draft : Draft). draft.row) (draft_of units atoms records) (range_with_len 0 (length atoms))) refl

-- the first list that is refused is that of the first draft that is
first_drafts : (units atoms : List (List ℕ)) (records : List Record) (n : ℕ) (before : List ℕ)
    → first_over (λ (drafts : List Draft). draft_refusal (length units) (length drafts)) (map (draft_of units atoms records) before)
    (map (draft_of units atoms records) (range_with_len (length before) n))
    ≡ first_over (λ (others : List ℕ). list_refusal units atoms records) before (range_with_len (length before) n)
first_drafts units atoms records zero before = refl
first_drafts units atoms records (suc n) before =
    let D : ℕ → Draft = draft_of units atoms records in
    let j : ℕ = length before in
    let here : draft_refusal (length units) (length (map D before)) (D j) ≡ list_refusal units atoms records j =
    ap (λ (m : ℕ). draft_refusal (length units) m (D j)) (lists.length-map before D) in
    let long : length (before ++ j ∷ []) ≡ j + 1 = lists.length-append before (j ∷ []) in
    let more : map D (before ++ j ∷ []) ≡ map D before ++ D j ∷ [] = lists.map-append D before (j ∷ []) in
    let rest = rw (long, more) at (first_drafts units atoms records n (before ++ j ∷ [])) in
    ap (λ (o : Option ListRefusal). option_or o
    (first_over (λ (drafts : List Draft). draft_refusal (length units) (length drafts)) (map D before ++ D j ∷ []) (map D (range_with_len (j + 1) n)))) here
    ∙ ap (option_or (list_refusal units atoms records j)) rest

pub lists_refusal-is : (units atoms : List (List ℕ)) (records : List Record)
    → drafts_refusal (length units) (drafts_of units atoms records) ≡ lists_refusal units atoms records
lists_refusal-is units atoms records = first_drafts units atoms records (length atoms) []

-- both parts of a row
pub row-put : (rows : GroupLists) (atom : ℕ) (members : List ℕ) (begins : List Bool) → atom < length rows.rows
    → with_begins (with_members rows atom members) atom begins ≡ with_row rows atom members begins
row-put rows atom members begins lt =
    let there : row_of (with_members rows atom members) atom ≡ record (row_of rows atom) { members = members } =
    lists.get_or-set_same rows.rows atom (record (row_of rows atom) { members = members }) no_row lt in
    rw (there, lists.set-set) refl

-- a place that is joined to the one before it
joined-put : (rows : GroupLists) (atom place : ℕ) (begins : List Bool) → atom < length rows.rows
    → with_joined (with_begins rows atom begins) atom place ≡ with_begins rows atom (set begins place false)
joined-put rows atom place begins lt =
    let there : row_of (with_begins rows atom begins) atom ≡ record (row_of rows atom) { begins = begins } =
    lists.get_or-set_same rows.rows atom (record (row_of rows atom) { begins = begins }) no_row lt in
    rw (there, lists.set-set) refl

-- where groups begin as far as it is written, and at each later place
abbrev pub begun : List Bool → ℕ → ℕ → List Bool
begun begins units place = take place begins ++ drop place (replicate units true)

begun_at : (begins : List Bool) (units place : ℕ) (b : Bool) → place < units → length begins ≡ units
    → set (begun begins units place) place b ≡ take place begins ++ b ∷ drop (place + 1) (replicate units true)
begun_at begins units place b lt long =
    let taken : length (take place begins) ≡ place = lists.length-take-le place begins (omega arith) in
    let inside : place < length (replicate units true) = omega (arith, lists.length-replicate units true) in
    rw (
      lists.drop_more (replicate units true) place true inside,
      lists.set_at (take place begins) (get_or (replicate units true) place true) (drop (place + 1) (replicate units true)) b place taken,
    ) refl

begun_more : (begins : List Bool) (units place : ℕ) → place < units → length begins ≡ units
    → take place begins ++ get_or begins place true ∷ drop (place + 1) (replicate units true) ≡ begun begins units (place + 1)
begun_more begins units place lt long =
    let inside : place < length begins = omega arith in
    rw (lists.take_more begins place true inside, lists.append_assoc) refl

begins-joined : (rows : GroupLists) (atom place : ℕ) (begins : List Bool) → atom < length rows.rows → place < rows.units
    → length begins ≡ rows.units → get_or begins place true ≡ false
    → with_joined (with_begins rows atom (begun begins rows.units place)) atom place
    ≡ with_begins rows atom (begun begins rows.units (place + 1))
begins-joined rows atom place begins there lt long is =
    joined-put rows atom place (begun begins rows.units place) there
    ∙ ap (with_begins rows atom)
    (begun_at begins rows.units place false lt long
    ∙ ap (λ b. take place begins ++ b ∷ drop (place + 1) (replicate rows.units true)) (sym is)
    ∙ begun_more begins rows.units place lt long)

begins-passed : (rows : GroupLists) (atom place : ℕ) (begins : List Bool) → place < rows.units
    → length begins ≡ rows.units → get_or begins place true ≡ true
    → with_begins rows atom (begun begins rows.units place) ≡ with_begins rows atom (begun begins rows.units (place + 1))
begins-passed rows atom place begins lt long is =
    let inside : place < length (replicate rows.units true) = omega (arith, lists.length-replicate rows.units true) in
    let one : get_or (replicate rows.units true) place true ≡ true = lists.get_or-replicate rows.units place true true lt in
    ap (with_begins rows atom)
    (ap (λ rest. take place begins ++ rest) (lists.drop_more (replicate rows.units true) place true inside)
    ∙ ap (λ b. take place begins ++ b ∷ drop (place + 1) (replicate rows.units true)) (one ∙ sym is)
    ∙ begun_more begins rows.units place lt long)

-- one place more, which is joined unless a group begins there
pub begins-more : (rows : GroupLists) (atom place : ℕ) (begins : List Bool) (here : Bool) → atom < length rows.rows → place < rows.units
    → length begins ≡ rows.units → get_or begins place true ≡ here
    → (if here then with_begins rows atom (begun begins rows.units place)
    else with_joined (with_begins rows atom (begun begins rows.units place)) atom place)
    ≡ with_begins rows atom (begun begins rows.units (place + 1))
begins-more rows atom place begins true there lt long is = begins-passed rows atom place begins lt long is
begins-more rows atom place begins false there lt long is = begins-joined rows atom place begins there lt long is

-- the lists after those of the first drafts are made
abbrev pub drafts_first : ℕ → List Draft → ℕ → GroupLists
drafts_first units drafts j = record { units = units; rows = made_rows (λ (draft : Draft). draft.row) (blank_row units) drafts j }

pub drafts_more : (units : ℕ) (drafts : List Draft) (j : ℕ) (draft : Draft) (members : List ℕ) (begins : List Bool) → j < length drafts
    → get_or drafts j draft ≡ draft → members ≡ draft.row.members → begins ≡ draft.row.begins
    → with_row (drafts_first units drafts j) j members begins ≡ drafts_first units drafts (j + 1)
drafts_more units drafts j draft members begins lt read m b =
    rw (m, b) (ap (λ (rows : List AtomList). record { units = units; rows = rows })
    (made_more (λ (d : Draft). d.row) (blank_row units) drafts j draft lt read))

-- the first refusal is that of a record, or else that of a list
pub given-stop_record : (units atoms : List (List ℕ)) (records : List Record) (e wants : ListRefusal)
    → (e ≡ wants) ⊎ (twice_records_refusal atoms records ≡ Some e) → (e ≡ wants) ⊎ (given_lists_of units atoms records ≡ Err e)
unfolding given_lists_of
given-stop_record units atoms records e wants (inl h) = inl h
given-stop_record units atoms records e wants (inr h) = inr (rw h refl)

pub given-stop_list : (units atoms : List (List ℕ)) (records : List Record) (n : ℕ) (drafts : List Draft) (e : ListRefusal) → n ≡ length units
    → drafts ≡ drafts_of units atoms records → twice_records_refusal atoms records ≡ None → drafts_refusal n drafts ≡ Some e
    → given_lists_of units atoms records ≡ Err e
unfolding given_lists_of
given-stop_list units atoms records n drafts e many is none h =
    let refused : lists_refusal units atoms records ≡ Some e =
    sym (lists_refusal-is units atoms records) ∙ ap (λ (all : List Draft). drafts_refusal (length units) all) (sym is) ∙ ap (λ (m : ℕ). drafts_refusal m drafts) (sym many) ∙ h in
    rw (none, refused) refl

pub given-done : (units atoms : List (List ℕ)) (records : List Record) (n : ℕ) (drafts : List Draft) (made : GroupLists) → n ≡ length units
    → drafts ≡ drafts_of units atoms records → twice_records_refusal atoms records ≡ None → drafts_refusal n drafts ≡ None
    → made ≡ draft_rows n drafts → given_lists_of units atoms records ≡ Ok made
unfolding given_lists_of
given-done units atoms records n drafts made many is none h rows =
    let passed : lists_refusal units atoms records ≡ None =
    sym (lists_refusal-is units atoms records) ∙ ap (λ (all : List Draft). drafts_refusal (length units) all) (sym is) ∙ ap (λ (m : ℕ). drafts_refusal m drafts) (sym many) ∙ h in
    let all : made ≡ given_lists units atoms records =
    rows ∙ ap (λ (m : ℕ). draft_rows m drafts) many ∙ ap (λ (ds : List Draft). draft_rows (length units) ds) is
    ∙ draft_rows-drafts_of units atoms records in
    rw (none, passed) (ap Ok (sym all))

pub filled_so : (units atoms : List (List ℕ)) (records : List Record) (n : ℕ) (drafts : List Draft) → 0 < length units → n ≡ length units
    → drafts ≡ drafts_of units atoms records → drafts_refusal n drafts ≡ None → All (IsFilled n) drafts
filled_so units atoms records n drafts some many is h =
    let passed : drafts_refusal (length units) (drafts_of units atoms records) ≡ None =
    ap (λ (all : List Draft). drafts_refusal (length units) all) (sym is) ∙ ap (λ (m : ℕ). drafts_refusal m drafts) (sym many) ∙ h in
    rw (many, is) (filled_from units atoms records some passed)

-- What records give for an atom's list, with one record more.
use Rattle.std.proofs.Common.{◌≡◌, ◌≢◌, ◌∙◌, ◌⊎◌, ℕ, ◌+◌, ◌<◌, true, false, List, [], ◌∷◌, ◌++◌, length, get_or, set, take, replicate, refl, sym, ap, inl, inr, arith, append_assoc}
use Rattle.std.specs.Prelude.{Bool, ◌==◌, ◌||◌, if◌then◌else◌, Some, None, map, slice_get}
use Rattle.std.specs.List.{flat_map, list_any, range_with_len}
use Rattle.std.proofs.lemmas.Bool.Decides.{nat_tests}
use Rattle.std.proofs.lemmas.List.{append-nil, get_or-replicate, length-append, length-map, length-replicate, length-take-le, map-append, replicate_more, take_more}
use Rattle.std.proofs.lemmas.List.Concat.{flat_map-append}
use Rattle.std.proofs.lemmas.List.Folds.{list_any-append}
use Rattle.std.proofs.lemmas.List.FromFn.{fill_by_all, get_or-map-range_with_len, length-map-range_with_len}
use Rattle.std.proofs.lemmas.Option.{get_or_from_slice_get, slice_get_within}
use Rattle.hyper_model.proofs.ListPlaces.{listed_set, taken_at}
use Rattle.plan_text.specs.declared.record.Record.{Record}
use Rattle.plan_text.specs.declared.record.Record.TheVariants as rec
use Rattle.atom_table.specs.Names.{place_or_zero}
use Rattle.atom_table.proofs.OwnNames.{place_or_zero-within}
use Rattle.preference_rules.specs.Drafts.{Draft, again_refusal, begins_in, draft_at, draft_of, drafts_of, no_draft, with_group, with_next, with_order, with_record, with_units}
use Rattle.preference_rules.specs.Given.{twice_refusal}
use Rattle.preference_rules.specs.Lists.{begins_of, given_groups, groups_for, is_list_for, is_order_for, places_of, row_of_groups}
use Rattle.preference_rules.specs.declared.refusal.ListRefusal.{ListRefusal}

-- one unit more in a group
pub begins_of-push : (group : List ℕ) (unit : ℕ) → begins_of (group ++ unit ∷ []) ≡ begins_of group ++ (length group == 0) ∷ []
begins_of-push [] unit = refl
begins_of-push (first ∷ group) unit =
    let long : length (group ++ unit ∷ []) ≡ length group + 1 = length-append group (unit ∷ []) in
    let later : (length (first ∷ group) == 0) ≡ false = grind (arith, nat_tests) in
    rw (long, later, ← replicate_more (length group) false) refl

-- groups of one unit each
pub singles_members : (units : List ℕ) → flat_map (λ (group : List ℕ). group) (map (λ (unit : ℕ). unit ∷ []) units) ≡ units
singles_members [] = refl
singles_members (unit ∷ units) = ap (λ rest. unit ∷ rest) (singles_members units)

pub singles_begins : (units : List ℕ) → flat_map begins_of (map (λ (unit : ℕ). unit ∷ []) units) ≡ replicate (length units) true
singles_begins [] = refl
singles_begins (unit ∷ units) = ap (λ rest. true ∷ rest) (singles_begins units)

-- a draft with more groups
abbrev joined : Draft → List (List ℕ) → Bool → Bool → Draft
joined draft groups listed ordered = record {
  row = record {
    members = draft.row.members ++ flat_map (λ (group : List ℕ). group) groups;
    begins = draft.row.begins ++ flat_map begins_of groups;
  };
  is_listed = draft.is_listed || listed;
  is_ordered = draft.is_ordered || ordered;
}

or_false : (b : Bool) → (b || false) ≡ b
or_false true = refl
or_false false = refl

or_true : (b : Bool) → (b || true) ≡ true
or_true true = refl
or_true false = refl

draft_of-push : (units atoms : List (List ℕ)) (before : List Record) (r : Record) (j : ℕ)
    → draft_of units atoms (before ++ r ∷ []) j
    ≡ joined (draft_of units atoms before j) (groups_for units atoms j r) (is_list_for atoms j r) (is_order_for atoms j r)
draft_of-push units atoms before r j =
    let groups : given_groups units atoms (before ++ r ∷ []) j ≡ given_groups units atoms before j ++ groups_for units atoms j r =
    flat_map-append (groups_for units atoms j) before (r ∷ []) ∙ ap (λ more. given_groups units atoms before j ++ more) (append-nil (groups_for units atoms j r)) in
    let listed : list_any (is_list_for atoms j) (before ++ r ∷ []) ≡ (list_any (is_list_for atoms j) before || is_list_for atoms j r) =
    list_any-append (is_list_for atoms j) before (r ∷ []) ∙ ap (λ b. list_any (is_list_for atoms j) before || b) (or_false (is_list_for atoms j r)) in
    let ordered : list_any (is_order_for atoms j) (before ++ r ∷ []) ≡ (list_any (is_order_for atoms j) before || is_order_for atoms j r) =
    list_any-append (is_order_for atoms j) before (r ∷ []) ∙ ap (λ b. list_any (is_order_for atoms j) before || b) (or_false (is_order_for atoms j r)) in
    let all : List (List ℕ) → Bool → Bool → Draft = λ gs l o. record { row = row_of_groups gs; is_listed = l; is_ordered = o } in
    ap (λ (gs : List (List ℕ)). all gs (list_any (is_list_for atoms j) (before ++ r ∷ [])) (list_any (is_order_for atoms j) (before ++ r ∷ []))) groups
    ∙ ap (λ (l : Bool). all (given_groups units atoms before j ++ groups_for units atoms j r) l (list_any (is_order_for atoms j) (before ++ r ∷ []))) listed
    ∙ ap (λ (o : Bool). all (given_groups units atoms before j ++ groups_for units atoms j r) (list_any (is_list_for atoms j) before || is_list_for atoms j r) o) ordered
    ∙ rows (given_groups units atoms before j) (groups_for units atoms j r) (list_any (is_list_for atoms j) before) (is_list_for atoms j r)
    (list_any (is_order_for atoms j) before) (is_order_for atoms j r)
  where
    rows : (xs ys : List (List ℕ)) (l l' o o' : Bool)
        → record { row = row_of_groups (xs ++ ys); is_listed = l || l'; is_ordered = o || o' }
        ≡ joined (record { row = row_of_groups xs; is_listed = l; is_ordered = o }) ys l' o'
    rows xs ys l l' o o' = rw (flat_map-append (λ (group : List ℕ). group) xs ys, flat_map-append begins_of xs ys) refl

joined_none : (draft : Draft) → joined draft [] false false ≡ draft
joined_none draft =
    rw (append-nil draft.row.members, append-nil draft.row.begins, or_false draft.is_listed, or_false draft.is_ordered) refl

joined_order : (draft : Draft) (units : List ℕ) → joined draft (map (λ (unit : ℕ). unit ∷ []) units) true true ≡ with_order draft units
joined_order draft units =
    rw (singles_members units, singles_begins units, or_true draft.is_listed, or_true draft.is_ordered) refl

joined_group : (draft : Draft) (units : List ℕ) → joined draft (units ∷ []) true false ≡ with_group draft units
joined_group draft units =
    rw (append-nil units, append-nil (begins_of units), or_true draft.is_listed, or_false draft.is_ordered) refl

-- by whether a record is for the atom
order_case : (draft : Draft) (units : List ℕ) (here : Bool)
    → joined draft (if here then map (λ (unit : ℕ). unit ∷ []) units else []) (here || false) here
    ≡ (if here then with_order draft units else draft)
order_case draft units true = joined_order draft units
order_case draft units false = joined_none draft

group_case : (draft : Draft) (units : List ℕ) (here : Bool)
    → joined draft (if here then units ∷ [] else []) (false || here) false ≡ (if here then with_group draft units else draft)
group_case draft units true = joined_group draft units
group_case draft units false = joined_none draft

same_place : (a j : ℕ) → a ≡ j → (a == j) ≡ true
same_place a j e = grind (arith, nat_tests)

other_place : (a j : ℕ) → j ≢ a → (a == j) ≡ false
other_place a j ne = grind (arith, nat_tests)

chosen : {A : Type 0} (b : Bool) (x y : A) → b ≡ true → (if b then x else y) ≡ x
chosen b x y e = rw e refl

left_out : {A : Type 0} (b : Bool) (x y : A) → b ≡ false → (if b then x else y) ≡ y
left_out b x y e = rw e refl

map_same : {A B : Type 0} (f g : A → B) → ((x : A) → f x ≡ g x) → (xs : List A) → map f xs ≡ map g xs
map_same f g h [] = refl
map_same f g h (x ∷ xs) = rw (h x, map_same f g h xs) refl

-- the draft of an atom
pub draft_at-drafts_of : (units atoms : List (List ℕ)) (records : List Record) (j : ℕ) → j < length atoms
    → draft_at (drafts_of units atoms records) j ≡ draft_of units atoms records j
draft_at-drafts_of units atoms records j lt =
    get_or-map-range_with_len (draft_of units atoms records) 0 (length atoms) j j no_draft lt (omega arith)

pub length-drafts_of : (units atoms : List (List ℕ)) (records : List Record) → length (drafts_of units atoms records) ≡ length atoms
length-drafts_of units atoms records = length-map-range_with_len (draft_of units atoms records) 0 (length atoms)

-- a record that gives no list
unlisted : (units atoms : List (List ℕ)) (before : List Record) (r : Record)
    → ((j : ℕ) → draft_of units atoms before j ≡ draft_of units atoms (before ++ r ∷ []) j)
    → drafts_of units atoms before ≡ drafts_of units atoms (before ++ r ∷ [])
unlisted units atoms before r h =
    map_same (draft_of units atoms before) (draft_of units atoms (before ++ r ∷ [])) h (range_with_len 0 (length atoms))

passed_over : (units atoms : List (List ℕ)) (before : List Record) (r : Record)
    → ((j : ℕ) → groups_for units atoms j r ≡ []) → ((j : ℕ) → is_list_for atoms j r ≡ false) → ((j : ℕ) → is_order_for atoms j r ≡ false)
    → drafts_of units atoms before ≡ drafts_of units atoms (before ++ r ∷ [])
passed_over units atoms before r g l o =
    unlisted units atoms before r
    (λ j. sym (draft_of-push units atoms before r j ∙ rw (g j, l j, o j) (joined_none (draft_of units atoms before j))))

-- a record that changes the draft of one atom
changed_at : (units atoms : List (List ℕ)) (before : List Record) (r : Record) (place : ℕ) (change : Draft → Draft) → place < length atoms
    → ((j : ℕ) → draft_of units atoms (before ++ r ∷ []) j
    ≡ (if place == j then change (draft_of units atoms before j) else draft_of units atoms before j))
    → set (drafts_of units atoms before) place (change (draft_at (drafts_of units atoms before) place))
    ≡ drafts_of units atoms (before ++ r ∷ [])
changed_at units atoms before r place change lt after =
    listed_set (draft_of units atoms before) (draft_of units atoms (before ++ r ∷ [])) (length atoms) place
    (change (draft_at (drafts_of units atoms before) place)) no_draft lt
    (after place
    ∙ chosen (place == place) (change (draft_of units atoms before place)) (draft_of units atoms before place) (same_place place place refl)
    ∙ ap change (sym (draft_at-drafts_of units atoms before place lt)))
    (λ j h ne. after j ∙ left_out (place == j) (change (draft_of units atoms before j)) (draft_of units atoms before j) (other_place place j ne))

pub drafts_of-push : (units atoms : List (List ℕ)) (before : List Record) (r : Record) → 0 < length atoms
    → with_record units atoms (drafts_of units atoms before) r ≡ drafts_of units atoms (before ++ r ∷ [])
drafts_of-push units atoms before (rec.Prefer at atom list) some =
    changed_at units atoms before (rec.Prefer at atom list) (place_or_zero atoms atom) (λ draft. with_order draft (places_of units list))
    (place_or_zero-within atoms atom some)
    (λ j. draft_of-push units atoms before (rec.Prefer at atom list) j
    ∙ order_case (draft_of units atoms before j) (places_of units list) (place_or_zero atoms atom == j))
drafts_of-push units atoms before (rec.Group at atom list) some =
    changed_at units atoms before (rec.Group at atom list) (place_or_zero atoms atom) (λ draft. with_group draft (places_of units list))
    (place_or_zero-within atoms atom some)
    (λ j. draft_of-push units atoms before (rec.Group at atom list) j
    ∙ group_case (draft_of units atoms before j) (places_of units list) (place_or_zero atoms atom == j))
drafts_of-push units atoms before (rec.Version at number) some =
    passed_over units atoms before (rec.Version at number) (λ j. refl) (λ j. refl) (λ j. refl)
drafts_of-push units atoms before (rec.LineIs at line) some =
    passed_over units atoms before (rec.LineIs at line) (λ j. refl) (λ j. refl) (λ j. refl)
drafts_of-push units atoms before (rec.RuleIs at rule) some =
    passed_over units atoms before (rec.RuleIs at rule) (λ j. refl) (λ j. refl) (λ j. refl)
drafts_of-push units atoms before (rec.Period at seconds) some =
    passed_over units atoms before (rec.Period at seconds) (λ j. refl) (λ j. refl) (λ j. refl)
drafts_of-push units atoms before (rec.UnitIs at name rate) some =
    passed_over units atoms before (rec.UnitIs at name rate) (λ j. refl) (λ j. refl) (λ j. refl)
drafts_of-push units atoms before (rec.AtomIs at name rate x y unit) some =
    passed_over units atoms before (rec.AtomIs at name rate x y unit) (λ j. refl) (λ j. refl) (λ j. refl)
drafts_of-push units atoms before (rec.Travel at origin target seconds) some =
    passed_over units atoms before (rec.Travel at origin target seconds) (λ j. refl) (λ j. refl) (λ j. refl)
drafts_of-push units atoms before (rec.Located at unit atom thousandths) some =
    passed_over units atoms before (rec.Located at unit atom thousandths) (λ j. refl) (λ j. refl) (λ j. refl)
drafts_of-push units atoms before (rec.Crews at unit count) some =
    passed_over units atoms before (rec.Crews at unit count) (λ j. refl) (λ j. refl) (λ j. refl)

-- a record is refused by the records before it as by what they gave
pub again_refusal-drafts_of : (units atoms : List (List ℕ)) (before : List Record) (r : Record) → 0 < length atoms
    → again_refusal atoms (drafts_of units atoms before) r ≡ twice_refusal atoms before r
again_refusal-drafts_of units atoms before (rec.Prefer at atom list) some =
    rw (draft_at-drafts_of units atoms before (place_or_zero atoms atom) (place_or_zero-within atoms atom some)) refl
again_refusal-drafts_of units atoms before (rec.Group at atom list) some =
    rw (draft_at-drafts_of units atoms before (place_or_zero atoms atom) (place_or_zero-within atoms atom some)) refl
again_refusal-drafts_of units atoms before (rec.Version at number) some = refl
again_refusal-drafts_of units atoms before (rec.LineIs at line) some = refl
again_refusal-drafts_of units atoms before (rec.RuleIs at rule) some = refl
again_refusal-drafts_of units atoms before (rec.Period at seconds) some = refl
again_refusal-drafts_of units atoms before (rec.UnitIs at name rate) some = refl
again_refusal-drafts_of units atoms before (rec.AtomIs at name rate x y unit) some = refl
again_refusal-drafts_of units atoms before (rec.Travel at origin target seconds) some = refl
again_refusal-drafts_of units atoms before (rec.Located at unit atom thousandths) some = refl
again_refusal-drafts_of units atoms before (rec.Crews at unit count) some = refl

-- the units of the first names, with one name more
pub places_of-more : (units names : List (List ℕ)) (place : ℕ) (name : List ℕ) → slice_get names place ≡ Some name
    → places_of units (take (place + 1) names) ≡ places_of units (take place names) ++ place_or_zero units name ∷ []
places_of-more units names place name read =
    let is : get_or names place [] ≡ name = get_or_from_slice_get names place name [] read in
    rw (take_more names place [] (slice_get_within names place name read), is) (map-append (place_or_zero units) (take place names) (name ∷ []))

-- the beginnings of groups among the units, with one unit more
begins_in-more : (are_single : Bool) (places : List ℕ) (unit : ℕ)
    → begins_in places are_single ++ (are_single || (length places == 0)) ∷ [] ≡ begins_in (places ++ unit ∷ []) are_single
begins_in-more true places unit =
    let long : length (places ++ unit ∷ []) ≡ length places + 1 = length-append places (unit ∷ []) in
    rw (long, replicate_more (length places) true) refl
begins_in-more false places unit = sym (begins_of-push places unit)

with_units-more : (draft : Draft) (are_single : Bool) (places : List ℕ) (unit : ℕ)
    → with_next (with_units draft places are_single) unit (are_single || (length places == 0))
    ≡ with_units draft (places ++ unit ∷ []) are_single
with_units-more draft are_single places unit =
    rw (sym (begins_in-more are_single places unit), append_assoc {A = ℕ}, append_assoc {A = Bool}) refl

pub units-taken : (draft : Draft) (are_single : Bool) (units names : List (List ℕ)) (place : ℕ) (name : List ℕ) (unit : ℕ)
    → slice_get names place ≡ Some name → unit ≡ place_or_zero units name
    → with_next (with_units draft (places_of units (take place names)) are_single) unit (are_single || (place == 0))
    ≡ with_units draft (places_of units (take (place + 1) names)) are_single
units-taken draft are_single units names place name unit read is =
    let before : Draft = with_units draft (places_of units (take place names)) are_single in
    let lt : place < length names = slice_get_within names place name read in
    let long : length (places_of units (take place names)) ≡ place =
    length-map (take place names) (place_or_zero units) ∙ length-take-le place names (omega arith) in
    ap (λ n. with_next before n (are_single || (place == 0))) is
    ∙ ap (λ n. with_next before (place_or_zero units name) (are_single || (n == 0))) (sym long)
    ∙ with_units-more draft are_single (places_of units (take place names)) (place_or_zero units name)
    ∙ ap (λ places. with_units draft places are_single) (sym (places_of-more units names place name read))

-- before all records
pub drafts_of-none : (units atoms : List (List ℕ)) (n : ℕ) → n ≡ length atoms → replicate n no_draft ≡ drafts_of units atoms []
drafts_of-none units atoms n is =
    fill_by_all (draft_of units atoms []) (replicate n no_draft) (length atoms) no_draft (length-replicate n no_draft ∙ is)
    (λ k lt. get_or-replicate n k no_draft no_draft (omega arith))

-- a step of the reading
again_is : (units atoms : List (List ℕ)) (before : List Record) (drafts : List Draft) (r : Record) → 0 < length atoms
    → drafts ≡ drafts_of units atoms before → again_refusal atoms drafts r ≡ twice_refusal atoms before r
again_is units atoms before drafts r some is =
    ap (λ (all : List Draft). again_refusal atoms all r) is ∙ again_refusal-drafts_of units atoms before r some

pub refused_so : (units atoms : List (List ℕ)) (before : List Record) (drafts : List Draft) (r : Record) (e wants : ListRefusal) → 0 < length atoms
    → drafts ≡ drafts_of units atoms before → (e ≡ wants) ⊎ (again_refusal atoms drafts r ≡ Some e)
    → (e ≡ wants) ⊎ (twice_refusal atoms before r ≡ Some e)
refused_so units atoms before drafts r e wants some is (inl h) = inl h
refused_so units atoms before drafts r e wants some is (inr h) = inr (sym (again_is units atoms before drafts r some is) ∙ h)

pub passed_so : (units atoms : List (List ℕ)) (before : List Record) (drafts : List Draft) (r : Record) → 0 < length atoms
    → drafts ≡ drafts_of units atoms before → again_refusal atoms drafts r ≡ None → twice_refusal atoms before r ≡ None
passed_so units atoms before drafts r some is h = sym (again_is units atoms before drafts r some is) ∙ h

pub drafts-taken : (units atoms : List (List ℕ)) (records : List Record) (i : ℕ) (drafts new : List Draft) (r : Record) → 0 < length atoms
    → i < length records → get_or records i r ≡ r → drafts ≡ drafts_of units atoms (take i records)
    → new ≡ with_record units atoms drafts r → new ≡ drafts_of units atoms (take (i + 1) records)
drafts-taken units atoms records i drafts new r some lt read is made =
    made
    ∙ ap (λ (all : List Draft). with_record units atoms all r) is
    ∙ drafts_of-push units atoms (take i records) r some
    ∙ ap (drafts_of units atoms) (sym (taken_at records i r lt read))

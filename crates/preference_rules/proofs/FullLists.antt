-- Lists that hold each unit once.
use Rattle.std.proofs.Common.{◌≡◌, ◌≢◌, ◌∙◌, ℕ, ◌+◌, ◌*◌, ◌<◌, ◌≤◌, true, false, cond, eqb, List, [], ◌∷◌, ◌++◌, length, drop, get_or, replicate, refl, sym, ap, arith}
use Rattle.std.specs.Prelude.{Bool, ◌==◌, if◌then◌else◌, All, map, slice_index_or}
use Rattle.std.specs.List.{flat_map}
use Rattle.std.proofs.lemmas.Bool.Decides.{nat_tests}
use Rattle.std.proofs.lemmas.List.{append-nil, length-append, length-replicate}
use Rattle.std.proofs.lemmas.List.Concat.{flat_map-append}
use Rattle.std.proofs.lemmas.List.Elements.{All-append, All-head, All-map, All-nil, All-tail}
use Rattle.std.proofs.lemmas.List.Sums.{sum_by-cons}
use Rattle.hyper_model.specs.Acceptance.{IsFullList, places_in}
use Rattle.hyper_model.specs.Groups.{groups_from, put_before}
use Rattle.hyper_model.specs.Plans.{all_below}
use Rattle.hyper_model.specs.Sums.{sum_below}
use Rattle.hyper_model.proofs.PlanSums.{all_below_fails}
use Rattle.hyper_model.proofs.Sums.{on_test, place_le_sum, sum-add, sum-at, sum-constant, sum-same, sum_none}
use Rattle.plan_text.specs.declared.record.Record.{Record}
use Rattle.plan_text.specs.declared.record.Record.TheVariants as rec
use Rattle.atom_table.specs.Names.{place_or_zero}
use Rattle.atom_table.proofs.OwnNames.{place_or_zero-within}
use Rattle.preference_rules.specs.Given.{holds_each}
use Rattle.preference_rules.specs.Lists.{begins_of, given_groups, groups_for, places_of, row_of_groups}
use Rattle.preference_rules.proofs.DraftSteps.{singles_members}

abbrev all_units : List (List ℕ) → List ℕ
all_units groups = flat_map (λ (group : List ℕ). group) groups

-- each number below n passes
pub all_below-each : (n : ℕ) (test : ℕ → Bool) → all_below n test ≡ true → (k : ℕ) → k < n → test k ≡ true
all_below-each n test h k lt = on_test (test k) (λ yes'. yes')
    (λ fails.
    let least : cond (test k) 0 1 ≤ sum_below n (λ i. cond (test i) 0 1) = place_le_sum n (λ i. cond (test i) 0 1) k lt in
    let one : cond (test k) 0 1 ≡ 1 = ap {B = ℕ} (λ b. cond b 0 1) fails in
    absurd (grind (arith, nat_tests, least, one)))

pub holds_each-once : (n : ℕ) (list : List ℕ) → holds_each n list ≡ true → (unit : ℕ) → unit < n → places_in list unit ≡ 1
holds_each-once n list h unit lt =
    let once : (places_in list unit == 1) ≡ true = all_below-each n (λ u. places_in list u == 1) h unit lt in
    grind (arith, nat_tests)

pub holds_each-fails : (n unit found : ℕ) (list : List ℕ) → unit < n → found ≡ places_in list unit → found ≢ 1 → false ≡ holds_each n list
holds_each-fails n unit found list lt is ne =
    let fails : (places_in list unit == 1) ≡ false = grind (arith, nat_tests) in
    sym (all_below_fails n (λ u. places_in list u == 1) unit lt fails)

-- the places of all units together are all places of a list
places_sum : (n : ℕ) (list : List ℕ) → All (λ unit. unit < n) list → sum_below n (places_in list) ≡ length list
places_sum n [] h = sum_none n (places_in []) (λ i lt. refl)
places_sum n (x ∷ xs) h =
    let lt : x < n = All-head (λ unit. unit < n) x xs h in
    sum-same n (places_in (x ∷ xs)) (λ u. cond (eqb u x) 1 0 + places_in xs u)
    (λ u l. sum_by-cons (λ m. cond (m == u) 1 0) x xs ∙ ap (λ k. k + places_in xs u) (turned_word x u))
    ∙ sum-add n (λ u. cond (eqb u x) 1 0) (places_in xs)
    ∙ (let one : sum_below n (λ u. cond (eqb u x) 1 0) ≡ 1 = sum-at n (λ u. 1) x lt in
    let rest = places_sum n xs (All-tail (λ unit. unit < n) x xs h) in
    omega (arith, one, rest))
  where
    turned_word : (x u : ℕ) → ◌≡◌ {A = ℕ} (cond (x == u) 1 0) (cond (eqb u x) 1 0)
    turned_word x u = grind (arith, nat_tests)

pub full-length : (n : ℕ) (list : List ℕ) → IsFullList n list → length list ≡ n
full-length n list full =
    sym (places_sum n list full.within)
    ∙ sum-same n (places_in list) (λ u. 1) full.once
    ∙ (let all : sum_below n (λ u. 1) ≡ n * 1 = sum-constant n 1 in omega (arith, all))

-- the units that a record gives
group_within : (units atoms : List (List ℕ)) (j : ℕ) (r : Record) → 0 < length units
    → All (λ unit. unit < length units) (all_units (groups_for units atoms j r))
group_within units atoms j (rec.Prefer at atom list) some = by (place_or_zero atoms atom == j)
  where
    each : All (λ unit. unit < length units) (places_of units list)
    each = All-map (λ unit. unit < length units) (place_or_zero units) list (λ k d lt. place_or_zero-within units (get_or list k d) some)

    by : (here : Bool) → All (λ unit. unit < length units)
        (all_units (if here then map (λ (unit : ℕ). unit ∷ []) (places_of units list) else []))
    by true = rw (singles_members (places_of units list)) each
    by false = All-nil (λ unit. unit < length units)
group_within units atoms j (rec.Group at atom list) some = by (place_or_zero atoms atom == j)
  where
    each : All (λ unit. unit < length units) (places_of units list)
    each = All-map (λ unit. unit < length units) (place_or_zero units) list (λ k d lt. place_or_zero-within units (get_or list k d) some)

    by : (here : Bool) → All (λ unit. unit < length units) (all_units (if here then places_of units list ∷ [] else []))
    by true = rw (append-nil (places_of units list)) each
    by false = All-nil (λ unit. unit < length units)
group_within units atoms j (rec.Version at number) some = All-nil (λ unit. unit < length units)
group_within units atoms j (rec.LineIs at line) some = All-nil (λ unit. unit < length units)
group_within units atoms j (rec.RuleIs at rule) some = All-nil (λ unit. unit < length units)
group_within units atoms j (rec.Period at seconds) some = All-nil (λ unit. unit < length units)
group_within units atoms j (rec.UnitIs at name rate) some = All-nil (λ unit. unit < length units)
group_within units atoms j (rec.AtomIs at name rate x y unit) some = All-nil (λ unit. unit < length units)
group_within units atoms j (rec.Travel at origin target seconds) some = All-nil (λ unit. unit < length units)
group_within units atoms j (rec.Located at unit atom thousandths) some = All-nil (λ unit. unit < length units)
group_within units atoms j (rec.Crews at unit count) some = All-nil (λ unit. unit < length units)

pub given_within : (units atoms : List (List ℕ)) (j : ℕ) (records : List Record) → 0 < length units
    → All (λ unit. unit < length units) (row_of_groups (given_groups units atoms records j)).members
given_within units atoms j [] some = All-nil (λ unit. unit < length units)
given_within units atoms j (r ∷ records) some =
    rw (flat_map-append (λ (group : List ℕ). group) (groups_for units atoms j r) (given_groups units atoms records j))
    (All-append (λ unit. unit < length units) (all_units (groups_for units atoms j r)) (all_units (given_groups units atoms records j))
    (group_within units atoms j r some) (given_within units atoms j records some))

-- where groups begin, of each unit
length-begins_of : (group : List ℕ) → length (begins_of group) ≡ length group
length-begins_of [] = refl
length-begins_of (unit ∷ group) = omega (arith, length-replicate (length group) false)

pub begins_each : (groups : List (List ℕ)) → length (row_of_groups groups).begins ≡ length (row_of_groups groups).members
begins_each [] = refl
begins_each (group ∷ groups) =
    omega (
      arith,
      length-append (begins_of group) (flat_map begins_of groups),
      length-append group (all_units groups),
      length-begins_of group,
      begins_each groups,
    )

pub first_begins : (groups : List (List ℕ)) → slice_index_or (row_of_groups groups).begins 0 true ≡ true
first_begins [] = refl
first_begins ([] ∷ groups) = first_begins groups
first_begins ((unit ∷ group) ∷ groups) = refl

-- the groups of the list of all groups: first the rest of a group, then the groups after it
abbrev Filled : List ℕ → Type 0
Filled group = 0 < length group

front_group : (unit : ℕ) (group : List ℕ) (groups : List (List ℕ)) → All Filled groups
    → groups_from (row_of_groups groups).members (drop 1 (row_of_groups groups).begins) ≡ groups
    → groups_from (unit ∷ (group ++ all_units groups)) (replicate (length group) false ++ flat_map begins_of groups) ≡ (unit ∷ group) ∷ groups
front_group unit [] [] filled whole = refl
front_group unit [] ([] ∷ groups) filled whole =
    let some : 0 < length {A = ℕ} [] = All-head Filled [] groups filled in absurd (omega arith)
front_group unit [] ((next ∷ group) ∷ groups) filled whole = ap (put_before unit true) whole
front_group unit (next ∷ group) groups filled whole = ap (put_before unit false) (front_group next group groups filled whole)

pub groups_of_row : (groups : List (List ℕ)) → All (λ group. 0 < length group) groups
    → groups_from (row_of_groups groups).members (drop 1 (row_of_groups groups).begins) ≡ groups
groups_of_row [] filled = refl
groups_of_row ([] ∷ groups) filled =
    let some : 0 < length {A = ℕ} [] = All-head Filled [] groups filled in absurd (omega arith)
groups_of_row ((unit ∷ group) ∷ groups) filled =
    front_group unit group groups (All-tail Filled (unit ∷ group) groups filled)
    (groups_of_row groups (All-tail Filled (unit ∷ group) groups filled))

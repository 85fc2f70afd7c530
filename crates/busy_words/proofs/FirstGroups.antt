-- The takers of a call, found place by place: the free units of the group in which the first free unit stands.
use Rattle.std.proofs.Common.{◌≡◌, ◌≢◌, ℕ, zero, suc, ◌+◌, ◌-◌, ◌^◌, ◌<◌, ◌≤◌, ◌↔◌, Bool, true, false, not, cond, eqb, ◌&&◌, ◌||◌, max, List, [], ◌∷◌, length, drop, get_or, drop-cons, refl, sym, ap, subst, ◌∙◌, inl, inr, true≢false, eqb-true, eq-eqb, arith}
use Rattle.std.specs.Prelude.{◌==◌, All, count_by, Some, None}
use Rattle.std.specs.List.{find, list_any}
use Rattle.std.specs.Int.{bit_at}
use Rattle.std.specs.Int.Bits.{bit_or}
use Rattle.std.proofs.lemmas.Bool.{cases_lt, cases_eq}
use Rattle.std.proofs.lemmas.Bool.Decides.{nat_tests}
use Rattle.std.proofs.lemmas.List.Elements.{All-get_or, All-head, All-tail, All-weaker}
use Rattle.std.proofs.lemmas.List.Sums.{sum_by-cons}
use Rattle.std.proofs.lemmas.Nat.Bits.{bit_at_or, bit_at-pow_same, bit_at-pow_other, bit_at-lt, bit_at-zero, bit_at_above, same_from_bits}
use Rattle.std.proofs.Math.ListN.{drop_of_length-le, get_or-eq_default}
use Rattle.hyper_model.specs.Groups.{GroupLists, put_before, groups_from, groups_in, row_of, no_row, list_of, member_at, begins_at, IsGrouped, IsRegular}
use Rattle.hyper_model.specs.Words.{is_busy, is_free, has_free, is_taker, first_free_of, full_word, takes, taker_count}
use Rattle.hyper_model.specs.declared.TheConstants.{MOST_UNITS}
use Rattle.hyper_model.specs.declared.parts.PlanParts.{PlanParts}
use Rattle.hyper_model.specs.Plans.{units, atoms, groups_of, IsAccepted}
use Rattle.hyper_model.specs.Laws.{level}
use Rattle.hyper_model.proofs.Sums.{on_test, sum-same, place_le_sum}
use Rattle.hyper_model.proofs.Bits.{full_busy, free_exists}
use Rattle.hyper_model.proofs.Grouping.{from_grouped}
use Rattle.hyper_model.proofs.Takers.{taker_free, taker_exists, takers_positive}
use Rattle.hyper_model.proofs.PlanLaws.{full_below}

abbrev stands_in : ℕ → List ℕ → Bool
stands_in n group = list_any (λ m. m == n) group

-- unit n is a free one of the first of these groups, if no new group begins with them
abbrev pub continues : Bool → List (List ℕ) → ℕ → ℕ → Bool
continues begin [] w n = false
continues begin (group ∷ groups) w n = not begin && (stands_in n group && is_free w n)

-- Unit n takes the call, if the places before these groups are done: `some` tells whether a free unit was
-- found there, `taken` whether n was one, and `begin` whether a group begins at the next place.
abbrev pub carried : Bool → Bool → Bool → List (List ℕ) → ℕ → ℕ → Bool
carried true taken begin groups w n = taken || continues begin groups w n
carried false taken begin groups w n = is_taker groups w n

-- one more unit before a group, by tests only
busy_joins : (e s v : Bool) → (e && v) ≡ false → ((e || s) && v) ≡ (s && v)
busy_joins true s true h = absurd (true≢false h)
busy_joins true true false h = refl
busy_joins true false false h = refl
busy_joins false s v h = refl

free_joins : (e s v : Bool) → (e && v) ≡ e → ((e || s) && v) ≡ (e || (s && v))
free_joins true s true h = refl
free_joins true s false h = absurd (true≢false (sym h))
free_joins false s v h = refl

or_groups : (a b c : Bool) → (a || (b || c)) ≡ ((a || b) || c)
or_groups true b c = refl
or_groups false b c = refl

busy_apart : (w u n : ℕ) → is_free w u ≡ false → ((u == n) && is_free w n) ≡ false
busy_apart w u n busy = on_test (u == n)
    (λ t. ap (λ c. c && is_free w n) t ∙ ap (λ m. is_free w m) (sym (eqb-true u n t)) ∙ busy)
    (λ f. ap (λ c. c && is_free w n) f)

free_with : (w u n : ℕ) → is_free w u ≡ true → ((u == n) && is_free w n) ≡ (u == n)
free_with w u n free = on_test (u == n)
    (λ t. ap (λ c. c && is_free w n) t ∙ ap (λ m. is_free w m) (sym (eqb-true u n t)) ∙ free ∙ sym t)
    (λ f. ap (λ c. c && is_free w n) f ∙ sym f)

-- a busy unit changes nothing
pub busy_place : (some taken begin next : Bool) (u : ℕ) (groups : List (List ℕ)) (w n : ℕ)
    → (some ≡ true → begin ≡ false) → is_free w u ≡ false
    → carried some taken begin (put_before u next groups) w n ≡ carried some taken next groups w n
busy_place true taken begin next u [] w n go busy =
    ap (λ b. taken || (not b && (((u == n) || false) && is_free w n))) (go refl)
    ∙ ap (λ c. taken || c) (busy_joins (u == n) false (is_free w n) (busy_apart w u n busy))
busy_place true taken begin true u (group ∷ groups) w n go busy =
    ap (λ b. taken || (not b && (((u == n) || false) && is_free w n))) (go refl)
    ∙ ap (λ c. taken || c) (busy_joins (u == n) false (is_free w n) (busy_apart w u n busy))
busy_place true taken begin false u (group ∷ groups) w n go busy =
    ap (λ b. taken || (not b && (((u == n) || stands_in n group) && is_free w n))) (go refl)
    ∙ ap (λ c. taken || c) (busy_joins (u == n) (stands_in n group) (is_free w n) (busy_apart w u n busy))
busy_place false taken begin next u [] w n go busy =
    ap (λ c. cond (c || false) (((u == n) || false) && is_free w n) false) busy
busy_place false taken begin true u (group ∷ groups) w n go busy =
    ap (λ c. cond (c || false) (((u == n) || false) && is_free w n) (is_taker (group ∷ groups) w n)) busy
busy_place false taken begin false u (group ∷ groups) w n go busy =
    ap (λ c. cond (c || has_free group w) (((u == n) || stands_in n group) && is_free w n) (is_taker groups w n)) busy
    ∙ ap (λ c. cond (has_free group w) c (is_taker groups w n))
    (busy_joins (u == n) (stands_in n group) (is_free w n) (busy_apart w u n busy))

-- a free unit is one more that takes the call
pub free_place : (some taken begin next : Bool) (u : ℕ) (groups : List (List ℕ)) (w n : ℕ)
    → (some ≡ true → begin ≡ false) → (some ≡ false → taken ≡ false) → is_free w u ≡ true
    → carried some taken begin (put_before u next groups) w n ≡ carried true (taken || (u == n)) next groups w n
free_place true taken begin next u [] w n go none free =
    ap (λ b. taken || (not b && (((u == n) || false) && is_free w n))) (go refl)
    ∙ ap (λ c. taken || c) (free_joins (u == n) false (is_free w n) (free_with w u n free))
    ∙ or_groups taken (u == n) false
free_place true taken begin true u (group ∷ groups) w n go none free =
    ap (λ b. taken || (not b && (((u == n) || false) && is_free w n))) (go refl)
    ∙ ap (λ c. taken || c) (free_joins (u == n) false (is_free w n) (free_with w u n free))
    ∙ or_groups taken (u == n) false
free_place true taken begin false u (group ∷ groups) w n go none free =
    ap (λ b. taken || (not b && (((u == n) || stands_in n group) && is_free w n))) (go refl)
    ∙ ap (λ c. taken || c) (free_joins (u == n) (stands_in n group) (is_free w n) (free_with w u n free))
    ∙ or_groups taken (u == n) (stands_in n group && is_free w n)
free_place false taken begin next u [] w n go none free =
    ap (λ c. cond (c || false) (((u == n) || false) && is_free w n) false) free
    ∙ free_joins (u == n) false (is_free w n) (free_with w u n free)
    ∙ ap (λ c. (c || (u == n)) || false) (sym (none refl))
free_place false taken begin true u (group ∷ groups) w n go none free =
    ap (λ c. cond (c || false) (((u == n) || false) && is_free w n) (is_taker (group ∷ groups) w n)) free
    ∙ free_joins (u == n) false (is_free w n) (free_with w u n free)
    ∙ ap (λ c. (c || (u == n)) || false) (sym (none refl))
free_place false taken begin false u (group ∷ groups) w n go none free =
    ap (λ c. cond (c || has_free group w) (((u == n) || stands_in n group) && is_free w n) (is_taker groups w n)) free
    ∙ free_joins (u == n) (stands_in n group) (is_free w n) (free_with w u n free)
    ∙ ap (λ c. (c || (u == n)) || (stands_in n group && is_free w n)) (sym (none refl))

-- if a new group begins after a free unit, the search ends
pub new_group : (taken : Bool) (groups : List (List ℕ)) (w n : ℕ) → carried true taken true groups w n ≡ taken
new_group true groups w n = refl
new_group false [] w n = refl
new_group false (group ∷ groups) w n = refl

-- and after the last group
pub no_group : (some taken begin : Bool) (w n : ℕ) → (some ≡ false → taken ≡ false) → carried some taken begin [] w n ≡ taken
no_group true true begin w n none = refl
no_group true false begin w n none = refl
no_group false taken begin w n none = sym (none refl)

-- the groups from a place on
abbrev pub groups_after : List ℕ → List Bool → ℕ → List (List ℕ)
groups_after units begins place = groups_from (drop place units) (drop (suc place) begins)

pub groups_next : (units : List ℕ) (begins : List Bool) (place : ℕ) → place < length units
    → groups_after units begins place
    ≡ put_before (get_or units place 0) (get_or begins (suc place) true) (groups_after units begins (suc place))
groups_next units begins place l = rw (drop-cons units place 0 l) (elim (cases_lt (suc place) (length begins)) [
  | inl more ↦ rw (drop-cons begins (suc place) true more) refl
  | inr past ↦
      let later : length begins ≤ suc (suc place) = omega arith in
      rw (drop_of_length-le begins past, drop_of_length-le begins later, get_or-eq_default begins true past) refl
])

-- no set bit, one more set bit, and two numbers with the same bits
member_of_none : (n : ℕ) → is_busy 0 n ≡ false
member_of_none n = ap (λ d. eqb d 1) (bit_at-zero n)

largest : (a b : ℕ) → a < 2 → b < 2 → eqb (max a b) 1 ≡ (eqb a 1 || eqb b 1)
largest zero zero h l = refl
largest zero (suc zero) h l = refl
largest (suc zero) zero h l = refl
largest (suc zero) (suc zero) h l = refl
largest zero (suc (suc b)) h l = absurd (omega arith)
largest (suc zero) (suc (suc b)) h l = absurd (omega arith)
largest (suc (suc a)) b h l = absurd (omega arith)

bit_of_one : (u n : ℕ) → eqb (bit_at (2 ^ u) n) 1 ≡ (u == n)
bit_of_one u n = elim (cases_eq n u) [
  | inl e ↦ ap (λ m. eqb (bit_at (2 ^ u) m) 1) e ∙ ap (λ d. eqb d 1) (bit_at-pow_same u) ∙ sym (eq-eqb u n (sym e))
  | inr ne ↦ ap (λ d. eqb d 1) (bit_at-pow_other u n ne) ∙ sym (apart u n ne)
]
  where
    apart : (u n : ℕ) → n ≢ u → (u == n) ≡ false
    apart u n ne = grind (arith, nat_tests)

pub member_of_more : (set u n : ℕ) → is_busy (bit_or set (2 ^ u)) n ≡ (is_busy set n || (u == n))
member_of_more set u n =
    ap (λ d. eqb d 1) (bit_at_or set (2 ^ u) n)
    ∙ largest (bit_at set n) (bit_at (2 ^ u) n) (bit_at-lt set n) (bit_at-lt (2 ^ u) n)
    ∙ ap (λ c. is_busy set n || c) (bit_of_one u n)

-- the units of a list that holds each of n once are below n
pub unit_below : (n : ℕ) (units : List ℕ) (begins : List Bool) → IsGrouped n (groups_from units begins)
    → (place : ℕ) → place < length units → get_or units place 0 < n
unit_below n units begins h place l =
    All-get_or (λ u. u < n) units place 0 l (from_grouped n units begins h).within

-- if some unit is free, somebody takes the call, and if none is, nobody
pub takers_none_full : (n : ℕ) (groups : List (List ℕ)) (w set : ℕ) → IsGrouped n groups → w < 2 ^ n → set < 2 ^ n
    → ((m : ℕ) → is_busy set m ≡ is_taker groups w m) → (set ≡ 0) ↔ (w ≡ 2 ^ n - 1)
takers_none_full n groups w set g below small told = (
  λ none. elim (cases_eq w (2 ^ n - 1)) [
    | inl full ↦ full
    | inr other ↦
        let free = free_exists n w below other in
        let taker = taker_exists n groups w free.0 g.within free.2
        (omega (arith, g.once free.0 free.1)) in
        absurd (true≢false (sym taker.2 ∙ sym (told taker.0) ∙ ap (λ s. is_busy s taker.0) none
        ∙ member_of_none taker.0))
  ],
  λ full. same_from_bits set 0 (λ i. elim (cases_lt i n) [
    | inl l ↦ not_set (bit_at set i) (bit_at-lt set i) (on_test (is_busy set i)
        (λ t. absurd (true≢false (sym (full_busy n i l) ∙ sym (ap (λ v. is_busy v i) full)
        ∙ taker_free groups w i (sym (told i) ∙ t))))
        (λ f. f)) ∙ sym (bit_at-zero i)
    | inr ge ↦ bit_at_above set n i small ge ∙ sym (bit_at-zero i)
  ]),
)
  where
    not_set : (d : ℕ) → d < 2 → eqb d 1 ≡ false → d ≡ 0
    not_set zero h f = refl
    not_set (suc zero) h f = absurd (true≢false f)
    not_set (suc (suc d)) h f = absurd (omega arith)

-- the first free unit of a list is none exactly in the full word
find_none : (list : List ℕ) (w : ℕ) → find (is_free w) list ≡ None → (n : ℕ) → is_free w n ≡ true
    → count_by (λ m. m == n) list ≡ 0
find_none [] w none n free = refl
find_none (m ∷ list) w none n free = on_test (is_free w m)
    (λ t. absurd (some_none (sym (ap (λ c. cond c (Some m) (find (is_free w) list)) t) ∙ none)))
    (λ f.
    let other : (m == n) ≡ false = on_test (m == n)
    (λ s. absurd (true≢false (sym free ∙ ap (λ a. is_free w a) (sym (eqb-true m n s)) ∙ f)))
    (λ s. s) in
    omega (
      arith,
      sum_by-cons (λ a. cond (a == n) 1 0) m list,
      ap {B = ℕ} (λ c. cond c 1 0) other,
      find_none list w (sym (ap (λ c. cond c (Some m) (find (is_free w) list)) f) ∙ none) n free,
    ))
  where
    some_none : {m : ℕ} → Some m ≡ None → ⊥
    some_none e = cc

find_busy : (list : List ℕ) (w : ℕ) → All (λ m. is_free w m ≡ false) list → find (is_free w) list ≡ None
find_busy [] w h = refl
find_busy (m ∷ list) w h =
    ap (λ c. cond c (Some m) (find (is_free w) list)) (All-head (λ a. is_free w a ≡ false) m list h)
    ∙ find_busy list w (All-tail (λ a. is_free w a ≡ false) m list h)

pub first_none_full : (n : ℕ) (units : List ℕ) (begins : List Bool) → IsGrouped n (groups_from units begins)
    → (w : ℕ) → w < 2 ^ n → (first_free_of units w ≡ None) ↔ (w ≡ 2 ^ n - 1)
first_none_full n units begins g w below =
    let full_list = from_grouped n units begins g in (
      λ none. elim (cases_eq w (2 ^ n - 1)) [
        | inl full ↦ full
        | inr other ↦
            let free = free_exists n w below other in
            absurd (omega (
              arith,
              full_list.once free.0 free.1,
              find_none units w none free.0 (ap not free.2),
            ))
      ],
      λ full. find_busy units w
          (All-weaker (λ m. m < n) (λ m. is_free w m ≡ false)
          (λ m l. ap not (ap (λ v. is_busy v m) full ∙ full_busy n m l)) units full_list.within),
    )

-- what a search over the places of a list knows when the places before this one are done
abbrev pub IsCarried : GroupLists → ℕ → ℕ → ℕ → ℕ → Type 0
IsCarried lists atom word place takers =
    (n : ℕ) → carried (not (eqb takers 0)) (is_busy takers n) (begins_at lists atom place)
    (groups_after (list_of lists atom) (row_of lists atom).begins place) word n
    ≡ is_taker (groups_in lists atom) word n

none_so_far : (takers n : ℕ) → not (eqb takers 0) ≡ false → is_busy takers n ≡ false
none_so_far takers n none =
    let zero_set : takers ≡ 0 = eqb-true takers 0 (not-false (eqb takers 0) none) in
    ap (λ s. is_busy s n) zero_set ∙ member_of_none n
  where
    not-false : (b : Bool) → not b ≡ false → b ≡ true
    not-false true e = refl
    not-false false e = absurd (true≢false e)

pub search_busy : (lists : GroupLists) (atom word place takers unit : ℕ) → place < length (list_of lists atom)
    → unit ≡ member_at lists atom place → (not (eqb takers 0) ≡ true → begins_at lists atom place ≡ false)
    → is_free word unit ≡ false → IsCarried lists atom word place takers → IsCarried lists atom word (suc place) takers
search_busy lists atom word place takers unit l is_unit go busy h n =
    let units = list_of lists atom in
    let begins = (row_of lists atom).begins in
    let some = not (eqb takers 0) in
    let here = begins_at lists atom place in
    sym (ap (λ gs. carried some (is_busy takers n) here gs word n) (groups_next units begins place l)
    ∙ busy_place some (is_busy takers n) here (begins_at lists atom (suc place)) (get_or units place 0)
    (groups_after units begins (suc place)) word n go (sym (ap (is_free word) is_unit) ∙ busy))
    ∙ h n

pub search_free : (lists : GroupLists) (atom word place takers unit next : ℕ) → place < length (list_of lists atom)
    → unit ≡ member_at lists atom place → (not (eqb takers 0) ≡ true → begins_at lists atom place ≡ false)
    → is_free word unit ≡ true → next ≡ bit_or takers (2 ^ unit)
    → IsCarried lists atom word place takers → IsCarried lists atom word (suc place) next
search_free lists atom word place takers unit next l is_unit go free is_next h n =
    let units = list_of lists atom in
    let begins = (row_of lists atom).begins in
    let some = not (eqb takers 0) in
    let here = begins_at lists atom place in
    let groups = groups_after units begins (suc place) in
    let later = begins_at lists atom (suc place) in
    let set : is_busy next n ≡ (is_busy takers n || (unit == n)) =
    ap (λ s. is_busy s n) is_next ∙ member_of_more takers unit n in
    ap (λ b. carried b (is_busy next n) later groups word n) (not_empty next unit is_next)
    ∙ ap (λ b. carried true b later groups word n) (set ∙ ap (λ u. is_busy takers n || (u == n)) is_unit)
    ∙ sym (ap (λ gs. carried some (is_busy takers n) here gs word n) (groups_next units begins place l)
    ∙ free_place some (is_busy takers n) here later (get_or units place 0) groups word n go
    (none_so_far takers n) (sym (ap (is_free word) is_unit) ∙ free))
    ∙ h n
  where
    or_true : (b : Bool) → (b || true) ≡ true
    or_true true = refl
    or_true false = refl

    not_empty : (next unit : ℕ) → next ≡ bit_or takers (2 ^ unit) → not (eqb next 0) ≡ true
    not_empty next unit e = on_test (eqb next 0)
        (λ t. absurd (true≢false (sym (or_true (is_busy takers unit))
        ∙ sym (ap (λ c. is_busy takers unit || c) (eq-eqb unit unit refl))
        ∙ sym (member_of_more takers unit unit) ∙ sym (ap (λ s. is_busy s unit) e)
        ∙ ap (λ s. is_busy s unit) (eqb-true next 0 t) ∙ member_of_none unit)))
        (λ f. ap not f)

-- the search ends where a group begins after a free unit, or after the last place
pub search_stops : (lists : GroupLists) (atom word place takers : ℕ) → takers ≢ 0 → begins_at lists atom place ≡ true
    → IsCarried lists atom word place takers → (n : ℕ) → is_busy takers n ≡ is_taker (groups_in lists atom) word n
search_stops lists atom word place takers some begins h n =
    let groups = groups_after (list_of lists atom) (row_of lists atom).begins place in
    sym (ap (λ b. carried b (is_busy takers n) (begins_at lists atom place) groups word n) (some_set takers some)
    ∙ ap (λ b. carried true (is_busy takers n) b groups word n) begins
    ∙ new_group (is_busy takers n) groups word n)
    ∙ h n
  where
    some_set : (takers : ℕ) → takers ≢ 0 → not (eqb takers 0) ≡ true
    some_set takers ne = grind (arith, nat_tests)

pub search_ends : (lists : GroupLists) (atom word place takers : ℕ) → length (list_of lists atom) ≤ place
    → IsCarried lists atom word place takers → (n : ℕ) → is_busy takers n ≡ is_taker (groups_in lists atom) word n
search_ends lists atom word place takers l h n =
    let begins = (row_of lists atom).begins in
    sym (ap (λ units. carried (not (eqb takers 0)) (is_busy takers n) (begins_at lists atom place)
    (groups_from units (drop (suc place) begins)) word n) (drop_of_length-le (list_of lists atom) l)
    ∙ no_group (not (eqb takers 0)) (is_busy takers n) (begins_at lists atom place) word n (none_so_far takers n))
    ∙ h n

-- the first free unit is found at its place, or past the last one it is none
pub found_here : (list : List ℕ) (w i : ℕ) → i < length list → is_free w (get_or list i 0) ≡ true
    → first_free_of (drop i list) w ≡ Some (get_or list i 0)
found_here list w i l free = rw (drop-cons list i 0 l)
    (ap (λ c. cond c (Some (get_or list i 0)) (find (is_free w) (drop (suc i) list))) free)

pub found_later : (list : List ℕ) (w i : ℕ) → i < length list → is_free w (get_or list i 0) ≡ false
    → first_free_of (drop (i + 1) list) w ≡ first_free_of (drop i list) w
found_later list w i l busy =
    let next : i + 1 ≡ suc i = omega arith in
    rw (next, drop-cons list i 0 l)
    (sym (ap (λ c. cond c (Some (get_or list i 0)) (find (is_free w) (drop (suc i) list))) busy))

pub found_none : (list : List ℕ) (w i : ℕ) → length list ≤ i → first_free_of (drop i list) w ≡ None
found_none list w i l = ap (find (is_free w)) (drop_of_length-le list l)

-- what calls of a plan know of its lists, and that their takers are those of the plan
list_length : (lists : GroupLists) → IsRegular lists → (atom : ℕ) → atom < length lists.rows
    → length (list_of lists atom) ≡ lists.units
list_length lists regular atom l =
    All-get_or (λ row. length row.members ≡ lists.units) lists.rows atom no_row l regular.members

pub list_reaches : (lists : GroupLists) → IsRegular lists → (atom place : ℕ) → atom < length lists.rows
    → place < lists.units → place < length (list_of lists atom)
list_reaches lists regular atom place l m = omega (arith, list_length lists regular atom l)

pub list_ends : (lists : GroupLists) → IsRegular lists → (atom place : ℕ) → atom < length lists.rows
    → lists.units ≤ place → length (list_of lists atom) ≤ place
list_ends lists regular atom place l m = omega (arith, list_length lists regular atom l)

pub member_below : (lists : GroupLists) → IsRegular lists → (atom place : ℕ) → atom < length lists.rows
    → place < lists.units → IsGrouped lists.units (groups_in lists atom) → member_at lists atom place < lists.units
member_below lists regular atom place l m grouped =
    unit_below lists.units (list_of lists atom) _ grouped place (list_reaches lists regular atom place l m)

-- the unit that is read at a place is a bit of a word
pub member_small : (lists : GroupLists) → IsRegular lists → (atom place unit : ℕ) → atom < length lists.rows
    → place < lists.units → IsGrouped lists.units (groups_in lists atom) → lists.units ≤ MOST_UNITS
    → unit ≡ member_at lists atom place → unit < 16
member_small lists regular atom place unit l m grouped most is =
    omega (arith, is, most, member_below lists regular atom place l m grouped)

pub lists_grouped : (p : PlanParts) → IsAccepted p → (lists : GroupLists) → lists ≡ p.lists → (atom : ℕ) → atom < atoms p
    → IsGrouped lists.units (groups_in lists atom)
lists_grouped p a lists e atom l =
    subst (λ ls. IsGrouped ls.units (groups_in ls atom)) (sym e)
    (subst (λ k. IsGrouped k (groups_of p atom)) (sym a.lists.width) (a.lists.grouped atom l))

pub takes_told : (p : PlanParts) (lists : GroupLists) → lists ≡ p.lists → (atom word set n : ℕ)
    → is_busy set n ≡ is_taker (groups_in lists atom) word n → is_busy set n ≡ takes p atom word n
takes_told p lists e atom word set n told = told ∙ ap (λ ls. is_taker (groups_in ls atom) word n) e

pub level_of_takers : (p : PlanParts) (lists : GroupLists) → lists ≡ p.lists → (atom word set : ℕ)
    → ((n : ℕ) → is_busy set n ≡ is_taker (groups_in lists atom) word n)
    → level (units p) set ≡ taker_count p atom word
level_of_takers p lists e atom word set told =
    sum-same (units p) (λ n. cond (is_busy set n) 1 0) (λ n. cond (takes p atom word n) 1 0)
    (λ n l. ap {B = ℕ} (λ b. cond b 1 0) (takes_told p lists e atom word set n (told n)))

-- in a word that is not full, somebody takes the call
pub some_taker : (p : PlanParts) → IsAccepted p → (atom word : ℕ) → atom < atoms p → word < full_word p
    → 0 < taker_count p atom word
some_taker p a atom word l below =
    let low : word ≢ full_word p = omega arith in
    let free = free_exists (units p) word (omega (arith, below, full_below p)) low in
    takers_positive p a atom word free.0 l free.1 free.2

-- and so if one is known
pub taker_counts : (p : PlanParts) (atom word n : ℕ) → n < units p → takes p atom word n ≡ true
    → 0 < taker_count p atom word
taker_counts p atom word n l t =
    omega (arith, place_le_sum (units p) (λ m. cond (takes p atom word m) 1 0) n l, ap {B = ℕ} (λ b. cond b 1 0) t)

pub lists_width : (p : PlanParts) → IsAccepted p → (lists : GroupLists) → lists ≡ p.lists → lists.units ≡ units p
lists_width p a lists e = ap (λ ls. ls.units) e ∙ a.lists.width

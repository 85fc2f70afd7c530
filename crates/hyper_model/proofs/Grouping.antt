-- Groups that are made of a list of units: what holds of the list holds of the groups together.
use Rattle.std.proofs.Common.{◌≡◌, ℕ, ◌+◌, ◌-◌, ◌<◌, ◌∙◌, ap, refl, sym, arith, List, [], ◌∷◌, Bool, true, false, length, take, cond}
use Rattle.std.specs.Prelude.{All, sum_by, count_by, ◌==◌}
use Rattle.std.specs.List.{list_all}
use Rattle.std.proofs.lemmas.Bool.Decides.{nat_tests}
use Rattle.std.proofs.lemmas.List.Elements.{All-nil, All-cons, All-head, All-tail}
use Rattle.std.proofs.lemmas.List.Sums.{sum_by-cons}
use Rattle.hyper_model.specs.Groups.{put_before, groups_from, IsGrouped}
use Rattle.hyper_model.specs.Plans.{are_single}
use Rattle.hyper_model.specs.Acceptance.{IsFullList}

-- the first group begins with the unit that is put before
pub put_head : (unit : ℕ) (alone : Bool) (groups : List (List ℕ))
    → (group : List ℕ) × ((rest : List (List ℕ)) × (put_before unit alone groups ≡ (unit ∷ group) ∷ rest))
put_head unit alone [] = ([], ([], refl))
put_head unit true (group ∷ groups) = ([], (group ∷ groups, refl))
put_head unit false (group ∷ groups) = (group, (groups, refl))

pub groups_head : (unit : ℕ) (units : List ℕ) (begins : List Bool)
    → (group : List ℕ) × ((rest : List (List ℕ)) × (groups_from (unit ∷ units) begins ≡ (unit ∷ group) ∷ rest))
groups_head unit units [] = put_head unit true (groups_from units [])
groups_head unit units (begin ∷ begins) = put_head unit begin (groups_from units begins)

-- a single unit before groups of one unit
pub single_put : (unit : ℕ) (groups : List (List ℕ)) → are_single (put_before unit true groups) ≡ are_single groups
single_put unit [] = refl
single_put unit (group ∷ groups) = refl

-- a unit that joins the first group makes it one of two units or more
pub joined_put : (unit member : ℕ) (group : List ℕ) (rest : List (List ℕ))
    → are_single (put_before unit false ((member ∷ group) ∷ rest)) ≡ false
joined_put unit member group rest = grind (arith, nat_tests)

-- if no list of tests is left, each unit is a group of its own
pub alone_single : (unit : ℕ) (units : List ℕ) → are_single (groups_from (unit ∷ units) []) ≡ true
alone_single unit [] = refl
alone_single unit (next ∷ units) = single_put unit (groups_from (next ∷ units) []) ∙ alone_single next units

joined_false : (unit : ℕ) (groups : List (List ℕ)) (member : ℕ)
    → (group : List ℕ) × ((rest : List (List ℕ)) × (groups ≡ (member ∷ group) ∷ rest))
    → are_single (put_before unit false groups) ≡ false
joined_false unit groups member h = rw h.1.1 (joined_put unit member h.0 h.1.0)

-- each group has one unit exactly if a group begins at each place but the first
pub later_single : (unit : ℕ) (units : List ℕ) (begins : List Bool)
    → list_all (λ begin. begin) (take (length units) begins) ≡ are_single (groups_from (unit ∷ units) begins)
later_single unit [] [] = refl
later_single unit [] (begin ∷ begins) = refl
later_single unit (next ∷ units) [] = sym (alone_single unit (next ∷ units))
later_single unit (next ∷ units) (true ∷ begins) =
    later_single next units begins ∙ sym (single_put unit (groups_from (next ∷ units) begins))
later_single unit (next ∷ units) (false ∷ begins) =
    sym (joined_false unit (groups_from (next ∷ units) begins) next (groups_head next units begins))

pub are_single_from : (units : List ℕ) (begins : List Bool)
    → list_all (λ begin. begin) (take (length units - 1) begins) ≡ are_single (groups_from units begins)
are_single_from [] begins = refl
are_single_from (unit ∷ units) begins =
    let e : length (unit ∷ units) - 1 ≡ length units = omega arith in
    ap (λ n. list_all (λ begin. begin) (take n begins)) e ∙ later_single unit units begins

abbrev filled : List ℕ → Type 0
filled group = 0 < length group

-- no group is empty
pub put_filled : (unit : ℕ) (alone : Bool) (groups : List (List ℕ)) → All (λ group. 0 < length group) groups
    → All (λ group. 0 < length group) (put_before unit alone groups)
put_filled unit alone [] h = All-cons filled (unit ∷ []) [] (omega arith) (All-nil filled)
put_filled unit true (group ∷ groups) h = All-cons filled (unit ∷ []) (group ∷ groups) (omega arith) h
put_filled unit false (group ∷ groups) h =
    All-cons filled (unit ∷ group) groups (omega arith) (All-tail filled group groups h)

pub filled_from : (units : List ℕ) (begins : List Bool) → All (λ group. 0 < length group) (groups_from units begins)
filled_from [] begins = All-nil filled
filled_from (unit ∷ units) [] = put_filled unit true (groups_from units []) (filled_from units [])
filled_from (unit ∷ units) (begin ∷ begins) = put_filled unit begin (groups_from units begins) (filled_from units begins)

-- the units of all groups together are those of the list
pub put_within : (P : ℕ → Type 0) (unit : ℕ) (alone : Bool) (groups : List (List ℕ)) → P unit
    → All (λ group. All P group) groups → All (λ group. All P group) (put_before unit alone groups)
put_within P unit alone [] h g =
    All-cons (All P) (unit ∷ []) [] (All-cons P unit [] h (All-nil P)) (All-nil (All P))
put_within P unit true (group ∷ groups) h g =
    All-cons (All P) (unit ∷ []) (group ∷ groups) (All-cons P unit [] h (All-nil P)) g
put_within P unit false (group ∷ groups) h g =
    All-cons (All P) (unit ∷ group) groups (All-cons P unit group h (All-head (All P) group groups g)) (All-tail (All P) group groups g)

pub within_from : (P : ℕ → Type 0) (units : List ℕ) (begins : List Bool) → All P units
    → All (λ group. All P group) (groups_from units begins)
within_from P [] begins h = All-nil (All P)
within_from P (unit ∷ units) [] h =
    put_within P unit true (groups_from units []) (All-head P unit units h) (within_from P units [] (All-tail P unit units h))
within_from P (unit ∷ units) (begin ∷ begins) h =
    put_within P unit begin (groups_from units begins) (All-head P unit units h) (within_from P units begins (All-tail P unit units h))

pub put_first : (P : ℕ → Type 0) (unit : ℕ) (alone : Bool) (groups : List (List ℕ))
    → All (λ group. All P group) (put_before unit alone groups) → P unit × All (λ group. All P group) groups
put_first P unit alone [] h = (All-head P unit [] (All-head (All P) (unit ∷ []) [] h), All-nil (All P))
put_first P unit true (group ∷ groups) h =
    (All-head P unit [] (All-head (All P) (unit ∷ []) (group ∷ groups) h), All-tail (All P) (unit ∷ []) (group ∷ groups) h)
put_first P unit false (group ∷ groups) h =
    let first = All-head (All P) (unit ∷ group) groups h in
    (All-head P unit group first, All-cons (All P) group groups (All-tail P unit group first) (All-tail (All P) (unit ∷ group) groups h))

pub from_within : (P : ℕ → Type 0) (units : List ℕ) (begins : List Bool)
    → All (λ group. All P group) (groups_from units begins) → All P units
from_within P [] begins h = All-nil P
from_within P (unit ∷ units) [] h =
    let t = put_first P unit true (groups_from units []) h in
    All-cons P unit units t.0 (from_within P units [] t.1)
from_within P (unit ∷ units) (begin ∷ begins) h =
    let t = put_first P unit begin (groups_from units begins) h in
    All-cons P unit units t.0 (from_within P units begins t.1)

-- so many units as the list has of a kind, all groups have together
pub put_count : (p : ℕ → Bool) (unit : ℕ) (alone : Bool) (groups : List (List ℕ))
    → sum_by (λ group. count_by p group) (put_before unit alone groups)
    ≡ cond (p unit) 1 0 + sum_by (λ group. count_by p group) groups
put_count p unit alone [] = omega arith
put_count p unit true (group ∷ groups) =
    omega (arith, sum_by-cons (λ (g : List ℕ). count_by p g) (unit ∷ []) (group ∷ groups), sum_by-cons (λ (x : ℕ). cond (p x) 1 0) unit [])
put_count p unit false (group ∷ groups) =
    omega (arith, sum_by-cons (λ (g : List ℕ). count_by p g) (unit ∷ group) groups, sum_by-cons (λ (g : List ℕ). count_by p g) group groups, sum_by-cons (λ (x : ℕ). cond (p x) 1 0) unit group)

pub count_from : (p : ℕ → Bool) (units : List ℕ) (begins : List Bool)
    → sum_by (λ group. count_by p group) (groups_from units begins) ≡ count_by p units
count_from p [] begins = refl
count_from p (unit ∷ units) [] =
    omega (arith, put_count p unit true (groups_from units []), count_from p units [], sum_by-cons (λ (x : ℕ). cond (p x) 1 0) unit units)
count_from p (unit ∷ units) (begin ∷ begins) =
    omega (arith, put_count p unit begin (groups_from units begins), count_from p units begins, sum_by-cons (λ (x : ℕ). cond (p x) 1 0) unit units)

-- groups hold each of the first n units once exactly if their list does
pub grouped_from : (n : ℕ) (units : List ℕ) (begins : List Bool) → IsFullList n units → IsGrouped n (groups_from units begins)
grouped_from n units begins h = record {
  filled = filled_from units begins;
  within = within_from (λ unit. unit < n) units begins h.within;
  once = λ unit l. count_from (λ m. m == unit) units begins ∙ h.once unit l;
}

pub from_grouped : (n : ℕ) (units : List ℕ) (begins : List Bool) → IsGrouped n (groups_from units begins) → IsFullList n units
from_grouped n units begins h = record {
  within = from_within (λ unit. unit < n) units begins h.within;
  once = λ unit l. sym (count_from (λ m. m == unit) units begins) ∙ h.once unit l;
}

-- Preference lists of groups. A call takes one of the free units of the first group that has one.
use Rattle.std.specs.Prelude.{◌≡◌, ℕ, ◌<◌, ◌==◌, Bool, true, false, if◌then◌else◌, List, [], ◌∷◌, length, All, sum_by, count_by, drop, replicate, slice_set, slice_index_or}

-- a unit put before groups: in a group of its own if it is `single`, else at the head of the first
abbrev pub put_before : ℕ → Bool → List (List ℕ) → List (List ℕ)
put_before unit single [] = (unit ∷ []) ∷ []
put_before unit single (group ∷ groups) = if single then (unit ∷ []) ∷ group ∷ groups else (unit ∷ group) ∷ groups

-- the groups of units in order: of each unit but the first, the list says whether a group begins with it
abbrev pub groups_from : List ℕ → List Bool → List (List ℕ)
groups_from [] begins = []
groups_from (unit ∷ units) [] = put_before unit true (groups_from units [])
groups_from (unit ∷ units) (begin ∷ begins) = put_before unit begin (groups_from units begins)

-- groups, none empty, that together hold each of the first n units exactly once
pub record IsGrouped (n : ℕ) (groups : List (List ℕ)) : Type 0 where
  pub filled : All (λ group. 0 < length group) groups
  pub within : All (λ group. All (λ unit. unit < n) group) groups
  pub once : (unit : ℕ) → unit < n → sum_by (λ group. count_by (λ m. m == unit) group) groups ≡ 1

-- an atom's preference list: its units in order, and of each place whether a group begins there
pub record AtomList : Type 0 where
  pub members : List ℕ
  pub begins : List Bool

-- what contracts see of the preference lists: how many units each has, and the list of each atom
pub record GroupLists : Type 0 where
  pub units : ℕ
  pub rows : List AtomList

abbrev pub no_row : AtomList
no_row = record { members = []; begins = [] }

abbrev pub row_of : GroupLists → ℕ → AtomList
row_of lists atom = slice_index_or lists.rows atom no_row

-- the unit at a place of an atom's list, and whether a group begins there
abbrev pub member_at : GroupLists → ℕ → ℕ → ℕ
member_at lists atom place = slice_index_or (row_of lists atom).members place 0

abbrev pub begins_at : GroupLists → ℕ → ℕ → Bool
begins_at lists atom place = slice_index_or (row_of lists atom).begins place true

-- a place for each unit in each list
pub record IsRegular (lists : GroupLists) : Type 0 where
  pub members : All (λ row. length row.members ≡ lists.units) lists.rows
  pub begins : All (λ row. length row.begins ≡ lists.units) lists.rows

-- lists with the unit 0 at every place, each in a group of its own
abbrev pub first_lists : ℕ → ℕ → GroupLists
first_lists atoms units = record {
  units = units;
  rows = replicate atoms (record { members = replicate units 0; begins = replicate units true });
}

-- the lists with this unit at this place
abbrev pub with_member : GroupLists → ℕ → ℕ → ℕ → GroupLists
with_member lists atom place unit = record lists {
  rows = slice_set lists.rows atom
      (record (row_of lists atom) { members = slice_set (row_of lists atom).members place unit });
}

-- the lists with this place in the group of the place before it
abbrev pub with_joined : GroupLists → ℕ → ℕ → GroupLists
with_joined lists atom place = record lists {
  rows = slice_set lists.rows atom
      (record (row_of lists atom) { begins = slice_set (row_of lists atom).begins place false });
}

-- the units of an atom's list, in order
abbrev pub list_of : GroupLists → ℕ → List ℕ
list_of lists atom = (row_of lists atom).members

-- the groups of an atom's list, in order
abbrev pub groups_in : GroupLists → ℕ → List (List ℕ)
groups_in lists atom = groups_from (list_of lists atom) (drop 1 (row_of lists atom).begins)

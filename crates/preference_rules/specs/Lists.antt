-- The groups that records give the preference list of an atom.
use Rattle.std.specs.Prelude.{◌==◌, ◌||◌, ℕ, Bool, true, false, if◌then◌else◌, List, [], ◌∷◌, length, map, replicate}
use Rattle.std.specs.List.{flat_map}
use Rattle.hyper_model.specs.Groups.{AtomList}
use Rattle.plan_text.specs.declared.record.Record.{Record}
use Rattle.plan_text.specs.declared.record.Record.TheVariants as rec
use Rattle.atom_table.specs.Names.{place_or_zero}

-- of each unit of a group, whether the group begins with it
abbrev pub begins_of : List ℕ → List Bool
begins_of [] = []
begins_of (unit ∷ group) = true ∷ replicate (length group) false

-- the list that has these groups
abbrev pub row_of_groups : List (List ℕ) → AtomList
row_of_groups groups = record {
  members = flat_map (λ (group : List ℕ). group) groups;
  begins = flat_map begins_of groups;
}

-- whether a record gives atom j a whole order, and whether it gives it a group
abbrev pub is_order_for : List (List ℕ) → ℕ → Record → Bool
is_order_for atoms j (rec.Prefer at atom units) = place_or_zero atoms atom == j
is_order_for atoms j _ = false

abbrev pub is_group_for : List (List ℕ) → ℕ → Record → Bool
is_group_for atoms j (rec.Group at atom units) = place_or_zero atoms atom == j
is_group_for atoms j _ = false

abbrev pub is_list_for : List (List ℕ) → ℕ → Record → Bool
is_list_for atoms j item = is_order_for atoms j item || is_group_for atoms j item

-- the places of units with these names
abbrev pub places_of : List (List ℕ) → List (List ℕ) → List ℕ
places_of units names = map (place_or_zero units) names

-- the groups that a record gives atom j: each unit of an order is a group of its own
abbrev pub groups_for : List (List ℕ) → List (List ℕ) → ℕ → Record → List (List ℕ)
groups_for units atoms j (rec.Prefer at atom list) =
    if place_or_zero atoms atom == j then map (λ (unit : ℕ). unit ∷ []) (places_of units list) else []
groups_for units atoms j (rec.Group at atom list) =
    if place_or_zero atoms atom == j then places_of units list ∷ [] else []
groups_for units atoms j _ = []

-- the groups that records give atom j, in their order
abbrev pub given_groups : List (List ℕ) → List (List ℕ) → List Record → ℕ → List (List ℕ)
given_groups units atoms records j = flat_map (groups_for units atoms j) records

-- the units of its list, in order
abbrev pub listed_units : List (List ℕ) → List (List ℕ) → List Record → ℕ → List ℕ
listed_units units atoms records j = flat_map (λ (group : List ℕ). group) (given_groups units atoms records j)

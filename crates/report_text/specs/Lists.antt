-- The rows of the atoms' preference lists.
use Rattle.std.specs.Prelude.{ℕ, if◌then◌else◌, List, ◌++◌, codes}
use Rattle.std.specs.List.{flat_map, range_with_len}
use Rattle.hyper_model.specs.declared.parts.PlanParts.{PlanParts}
use Rattle.hyper_model.specs.Groups.{list_of}
use Rattle.hyper_model.specs.Plans.{atoms, groups_of, are_single}
use Rattle.report_text.specs.Labels.{unit_field, atom_field}

-- a row of a word, the atom's name and the names of units
abbrev pub list_row : PlanParts → List ℕ → ℕ → List ℕ → List ℕ
list_row p word j members = word ++ atom_field p j ++ flat_map (unit_field p) members ++ codes "\n"

-- one row if each group of the atom has one unit, else one for each group
abbrev pub list_rows : PlanParts → ℕ → List ℕ
list_rows p j =
    if are_single (groups_of p j) then list_row p (codes "prefer") j (list_of p.lists j)
    else flat_map (list_row p (codes "group") j) (groups_of p j)

abbrev pub all_list_rows : PlanParts → List ℕ
all_list_rows p = flat_map (list_rows p) (range_with_len 0 (atoms p))

-- A plan with one unit wholly at one atom.
use Rattle.std.specs.Prelude.{ℕ, ◌==◌, if◌then◌else◌, map}
use Rattle.std.specs.List.{flat_map, range_with_len}
use Rattle.hyper_model.specs.Grid.{Grid, cell}
use Rattle.hyper_model.specs.Groups.{GroupLists}
use Rattle.hyper_model.specs.Plans.{units}
use Rattle.hyper_model.specs.declared.TheConstants.{WHOLE_TIME}
use Rattle.hyper_model.specs.declared.kinds.Rule.{Rule}
use Rattle.hyper_model.specs.declared.kinds.Rule.TheVariants as rule
use Rattle.hyper_model.specs.declared.parts.PlanParts.{PlanParts}
use Rattle.preference_rules.specs.Centred.{centred_lists}

-- the table whose cell in row r and column c is f r c
abbrev pub grid_of : ℕ → ℕ → (ℕ → ℕ → ℕ) → Grid
grid_of rows cols f = record {
  rows = rows;
  cols = cols;
  cells = flat_map (λ r. map (f r) (range_with_len 0 cols)) (range_with_len 0 rows);
}

-- the thousandths of unit m at atom j, if unit n is wholly at atom k and the others are where they were
abbrev pub thousandths : Grid → ℕ → ℕ → ℕ → ℕ → ℕ
thousandths located n k m j = if m == n then (if j == k then WHOLE_TIME else 0) else cell located m j

abbrev pub located_wholly : Grid → ℕ → ℕ → Grid
located_wholly located n k = grid_of located.rows located.cols (thousandths located n k)

-- the preference lists by a rule: those that the plan was given, or those that follow from where the units are
abbrev pub lists_by : Rule → PlanParts → Grid → GroupLists
lists_by rule.Given p located = p.lists
lists_by rule.Strict p located = centred_lists rule.Strict (units p) p.atoms located
lists_by rule.Modified p located = centred_lists rule.Modified (units p) p.atoms located

-- the plan with unit n wholly at atom k
unfoldable pub placed : PlanParts → ℕ → ℕ → PlanParts
placed p n k = record p {
  located = located_wholly p.located n k;
  lists = lists_by p.rule p (located_wholly p.located n k);
}

-- The text: the limits, and a row for each share.
use Rattle.std.specs.Prelude.{ℕ, List, [], ◌∷◌, ◌++◌, codes}
use Rattle.std.specs.List.{flat_map}
use Rattle.text_lines.specs.Fields.{count_row, number_field, text_field}
use Rattle.text_lines.specs.Fractions.{ends_bytes}
use Rattle.hyper_model.specs.declared.parts.PlanParts.{PlanParts}
use Rattle.hyper_model.specs.declared.values.Value.{Value}
use Rattle.hyper_model.specs.Plans.{atom_name, unit_name}
use Rattle.timely_reach.specs.declared.kinds.ReachMeasure.{ReachMeasure}
use Rattle.timely_reach.specs.declared.kinds.ReachMeasure.TheVariants as measure
use Rattle.timely_reach.specs.declared.kinds.ReachRow.{ReachRow}

-- the word of a share, and the name of its atom or unit
abbrev pub reach_label : PlanParts → ReachMeasure → List ℕ
reach_label p measure.Region = codes "region"
reach_label p measure.All = codes "all"
reach_label p measure.AtOnce = codes "at-once"
reach_label p (measure.Atom j) = codes "atom" ++ text_field (atom_name p j)
reach_label p (measure.Unit n) = codes "unit" ++ text_field (unit_name p n)
reach_label p (measure.District n) = codes "district" ++ text_field (unit_name p n)

abbrev pub share_field : Value → List ℕ
share_field ends = codes "," ++ ends_bytes ends.lo ends.hi 1000000

-- the ends for each limit, in order
abbrev pub share_fields : List Value → List ℕ
share_fields [] = codes ",none"
share_fields (first ∷ others) = flat_map share_field (first ∷ others)

abbrev pub reach_row : PlanParts → ReachRow → List ℕ
reach_row p row = reach_label p row.measure ++ share_fields row.ends ++ codes "\n"

abbrev pub limits_row : List ℕ → List ℕ
limits_row limits = codes "seconds" ++ flat_map number_field limits ++ codes "\n"

abbrev pub reach_bytes : PlanParts → List ℕ → List ReachRow → List ℕ
reach_bytes p limits rows = count_row (codes "reach") 1 ++ limits_row limits ++ flat_map (reach_row p) rows ++ codes "end\n"

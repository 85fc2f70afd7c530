-- The text of the measures, a row each.
use Rattle.std.specs.Prelude.{ℕ, List, ◌++◌, codes}
use Rattle.std.specs.List.{flat_map}
use Rattle.text_lines.specs.Fields.{count_row, text_field}
use Rattle.text_lines.specs.Fractions.{ends_bytes}
use Rattle.hyper_model.specs.declared.parts.PlanParts.{PlanParts}
use Rattle.hyper_model.specs.Plans.{unit_name}
use Rattle.pair_dispatch.specs.declared.measure.PairMeasure.{PairMeasure}
use Rattle.pair_dispatch.specs.declared.measure.PairMeasure.TheVariants as measure
use Rattle.pair_dispatch.specs.declared.measure.PairEnds.{PairEnds}

-- the word of a measure, and the names of its units
abbrev pub label_of : PlanParts → PairMeasure → List ℕ
label_of p measure.Loss = codes "loss"
label_of p measure.Short = codes "short"
label_of p (measure.Workload n) = codes "workload" ++ text_field (unit_name p n)
label_of p (measure.Pair a b) = codes "pair" ++ text_field (unit_name p a) ++ text_field (unit_name p b)

abbrev pub ends_row : PlanParts → PairEnds → List ℕ
ends_row p e = label_of p e.measure ++ codes "," ++ ends_bytes e.lo e.hi 1000000 ++ codes "\n"

abbrev pub pair_bytes : PlanParts → ℕ → List PairEnds → List ℕ
pair_bytes p percent found =
    count_row (codes "pairs") 1 ++ count_row (codes "percent") percent ++ flat_map (ends_row p) found ++ codes "end\n"

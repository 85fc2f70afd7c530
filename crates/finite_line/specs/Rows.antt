-- The text of a plan with waiting places: how many places, and a row for each measure.
use Rattle.std.specs.Prelude.{ℕ, List, ◌++◌, codes}
use Rattle.std.specs.List.{flat_map}
use Rattle.text_lines.specs.Fields.{count_row, text_field}
use Rattle.text_lines.specs.Fractions.{ends_bytes}
use Rattle.hyper_model.specs.declared.parts.PlanParts.{PlanParts}
use Rattle.hyper_model.specs.Plans.{unit_name}
use Rattle.finite_line.specs.declared.kinds.FiniteMeasure.{FiniteMeasure}
use Rattle.finite_line.specs.declared.kinds.FiniteMeasure.TheVariants as measure
use Rattle.finite_line.specs.declared.kinds.FiniteEnds.{FiniteEnds}
use Rattle.finite_line.specs.FiniteMeasures.{finite_scale}

-- the word of a measure, and the name of its unit
abbrev pub finite_label : PlanParts → FiniteMeasure → List ℕ
finite_label p measure.Lost = codes "lost"
finite_label p measure.Delayed = codes "delayed"
finite_label p measure.Busy = codes "busy"
finite_label p measure.Queue = codes "queue"
finite_label p measure.Wait = codes "wait"
finite_label p (measure.Workload n) = codes "workload" ++ text_field (unit_name p n)

abbrev pub finite_row : PlanParts → FiniteEnds → List ℕ
finite_row p e = finite_label p e.measure ++ codes "," ++ ends_bytes e.lo e.hi (finite_scale e.measure) ++ codes "\n"

abbrev pub finite_bytes : PlanParts → ℕ → List FiniteEnds → List ℕ
finite_bytes p room found =
    count_row (codes "finite") 1 ++ count_row (codes "places") room ++ flat_map (finite_row p) found ++ codes "end\n"

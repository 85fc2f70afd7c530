-- The first rows of a report: the version of its form, and the line, the size and the rates of the plan.
use Rattle.std.specs.Prelude.{List, ℕ, ◌++◌, codes}
use Rattle.text_lines.specs.Fields.{count_row}
use Rattle.hyper_model.specs.declared.kinds.Line.{Line}
use Rattle.hyper_model.specs.declared.kinds.Line.TheVariants as line
use Rattle.hyper_model.specs.declared.parts.PlanParts.{PlanParts}
use Rattle.hyper_model.specs.Plans.{units, atoms, all_calls, all_service}

abbrev pub line_name : Line → List ℕ
line_name line.Zero = codes "zero"
line_name line.Infinite = codes "infinite"

abbrev pub line_row : Line → List ℕ
line_row l = codes "line," ++ line_name l ++ codes "\n"

-- how many units and atoms there are
abbrev pub size_rows : PlanParts → List ℕ
size_rows p = count_row (codes "units") (units p) ++ count_row (codes "atoms") (atoms p)

-- the rates of all calls and of all service
abbrev pub rate_rows : PlanParts → List ℕ
rate_rows p = count_row (codes "calls") (all_calls p) ++ count_row (codes "service") (all_service p)

abbrev pub head_bytes : PlanParts → List ℕ
head_bytes p = count_row (codes "report") 1 ++ line_row p.line ++ size_rows p ++ rate_rows p

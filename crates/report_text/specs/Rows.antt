-- The row of a measure.
use Rattle.std.specs.Prelude.{ℕ, List, ◌++◌, codes}
use Rattle.text_lines.specs.Fractions.{ends_bytes}
use Rattle.hyper_model.specs.declared.kinds.Found.{Found}
use Rattle.hyper_model.specs.declared.kinds.Found.TheVariants as found
use Rattle.hyper_model.specs.declared.kinds.Enclosed.{Enclosed}
use Rattle.hyper_model.specs.declared.parts.PlanParts.{PlanParts}
use Rattle.hyper_model.specs.Measures.{scale_of}
use Rattle.report_text.specs.Labels.{label_bytes}

abbrev pub found_bytes : ℕ → Found → List ℕ
found_bytes scale (found.Ends lo hi) = ends_bytes lo hi scale
found_bytes scale found.Without = codes "none"

abbrev pub measure_row : PlanParts → Enclosed → List ℕ
measure_row p e =
    label_bytes p e.measure ++ codes "," ++ found_bytes (scale_of e.measure) e.found ++ codes "\n"

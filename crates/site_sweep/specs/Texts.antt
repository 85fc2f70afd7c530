-- The text of a sweep.
use Rattle.std.specs.Prelude.{ℕ, if◌then◌else◌, List, [], ◌++◌, codes}
use Rattle.std.specs.List.{flat_map}
use Rattle.hyper_model.specs.Measures.{scale_of, word_of}
use Rattle.hyper_model.specs.declared.kinds.Measure.{Measure}
use Rattle.hyper_model.specs.declared.parts.PlanParts.{PlanParts}
use Rattle.report_text.specs.Labels.{atom_field, unit_field}
use Rattle.text_lines.specs.Fields.{count_row, text_field}
use Rattle.text_lines.specs.Fractions.{ends_bytes}
use Rattle.site_sweep.specs.Sites.{number_dropped}
use Rattle.site_sweep.specs.declared.site_list.Site.{Site}

abbrev pub unit_row : PlanParts → ℕ → List ℕ
unit_row p n = codes "unit" ++ unit_field p n ++ codes "\n"

abbrev pub measure_row : Measure → List ℕ
measure_row m = codes "measure" ++ text_field (word_of m) ++ codes "\n"

abbrev pub site_row : PlanParts → Measure → Site → List ℕ
site_row p m s =
    codes "site" ++ atom_field p s.atom ++ codes "," ++ ends_bytes s.lo s.hi (scale_of m) ++ codes "\n"

-- no row for a site that is dropped
abbrev pub kept_row : PlanParts → Measure → Site → List ℕ
kept_row p m s = if s.kept then site_row p m s else []

abbrev pub sweep_bytes : PlanParts → ℕ → Measure → List Site → List ℕ
sweep_bytes p n m sites =
    codes "sweep,1\n"
    ++ unit_row p n
    ++ measure_row m
    ++ flat_map (kept_row p m) sites
    ++ count_row (codes "dropped") (number_dropped sites)
    ++ codes "end\n"

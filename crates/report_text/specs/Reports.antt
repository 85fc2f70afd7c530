-- The text of a report, or of its summary.
use Rattle.std.specs.Prelude.{ℕ, Bool, not, ◌||◌, if◌then◌else◌, List, [], ◌++◌, filter, codes}
use Rattle.std.specs.List.{flat_map}
use Rattle.hyper_model.specs.Measures.{is_of_region}
use Rattle.hyper_model.specs.declared.kinds.Enclosed.{Enclosed}
use Rattle.hyper_model.specs.declared.parts.PlanParts.{PlanParts}
use Rattle.report_text.specs.Heads.{head_bytes}
use Rattle.report_text.specs.Lists.{all_list_rows}
use Rattle.report_text.specs.Rows.{measure_row}

-- a summary has only the region's measures
abbrev pub is_printed : Bool → Enclosed → Bool
is_printed summary e = not summary || is_of_region e.measure

abbrev pub printed_items : Bool → List Enclosed → List Enclosed
printed_items summary items = filter (is_printed summary) items

abbrev pub report_bytes : PlanParts → List Enclosed → Bool → List ℕ
report_bytes p items summary =
    head_bytes p
    ++ (if summary then [] else all_list_rows p)
    ++ flat_map (measure_row p) (printed_items summary items)
    ++ codes "end\n"

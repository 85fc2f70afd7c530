-- Which measure's ends lie further apart than was asked.
use Rattle.std.specs.Prelude.{◌≡◌, ℕ, ◌-◌, Bool, false, if◌then◌else◌, List, Option, Some, None, nat_lt, find}
use Rattle.hyper_model.specs.declared.kinds.Found.{Found}
use Rattle.hyper_model.specs.declared.kinds.Found.TheVariants as found
use Rattle.hyper_model.specs.declared.kinds.Enclosed.{Enclosed}
use Rattle.hyper_model.specs.declared.kinds.Measure.{Measure}
use Rattle.hyper_model.specs.Measures.{is_time}
use Rattle.report_text.specs.declared.ending.Widths.{Widths}
use Rattle.report_text.specs.declared.ending.ReportEnd.{ReportEnd}
use Rattle.report_text.specs.declared.ending.ReportEnd.TheVariants as end
use Rattle.report_text.specs.Reports.{printed_items}

-- the width asked of the measure, if any
abbrev pub width_of : Widths → Measure → Option ℕ
width_of widths m = if is_time m then widths.time else widths.share

abbrev pub exceeds : Option ℕ → Found → Bool
exceeds (Some width) (found.Ends lo hi) = nat_lt width (hi - lo)
exceeds width f = false

abbrev pub is_wide : Widths → Enclosed → Bool
is_wide widths e = exceeds (width_of widths e.measure) e.found

-- the first printed measure that is too wide
abbrev pub first_wide : Widths → Bool → List Enclosed → Option Enclosed
first_wide widths summary items = find (is_wide widths) (printed_items summary items)

-- the report ended at this measure, or, if none is too wide, for lack of memory
abbrev pub EndsAt : Option Enclosed → ReportEnd → Type 0
EndsAt wide (end.TooWide m lo hi) = wide ≡ Some (record { measure = m; found = found.Ends lo hi })
EndsAt wide end.NoMemory = wide ≡ None

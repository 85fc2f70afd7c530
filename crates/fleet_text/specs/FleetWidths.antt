-- Which measure's ends lie further apart than was asked.
use Rattle.std.specs.Prelude.{◌≡◌, ℕ, Bool, List, Option, Some, None, find}
use Rattle.hyper_model.specs.declared.kinds.Found.TheVariants as found
use Rattle.fleet_measures.specs.declared.kinds.FleetEnds.{FleetEnds}
use Rattle.fleet_measures.specs.declared.kinds.FleetMeasure.{FleetMeasure}
use Rattle.fleet_measures.specs.declared.kinds.FleetMeasure.TheVariants as fleet
use Rattle.report_text.specs.declared.ending.Widths.{Widths}
use Rattle.report_text.specs.TooWide.{exceeds, width_of}
use Rattle.fleet_text.specs.declared.ending.FleetReportEnd.{FleetReportEnd}
use Rattle.fleet_text.specs.declared.ending.FleetReportEnd.TheVariants as end
use Rattle.fleet_text.specs.FleetReports.{printed_ends}

-- the width asked of the measure, if any
abbrev pub fleet_width : Widths → FleetMeasure → Option ℕ
fleet_width widths (fleet.Of m) = width_of widths m
fleet_width widths (fleet.Full k) = widths.share

abbrev pub is_wide_in : Widths → FleetEnds → Bool
is_wide_in widths e = exceeds (fleet_width widths e.measure) e.found

-- the first printed measure that is too wide
abbrev pub first_wide_ends : Widths → Bool → List FleetEnds → Option FleetEnds
first_wide_ends widths summary items = find (is_wide_in widths) (printed_ends summary items)

-- the report ended at this measure, or, if none is too wide, for lack of memory
abbrev pub FleetEndsAt : Option FleetEnds → FleetReportEnd → Type 0
FleetEndsAt wide (end.TooWide m lo hi) = wide ≡ Some (record { measure = m; found = found.Ends lo hi })
FleetEndsAt wide end.NoMemory = wide ≡ None

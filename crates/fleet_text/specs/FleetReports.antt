-- The text of a fleet's report, or of its summary.
use Rattle.std.specs.Prelude.{ℕ, Bool, not, ◌||◌, if◌then◌else◌, List, [], ◌++◌, filter, codes}
use Rattle.std.specs.List.{flat_map}
use Rattle.hyper_model.specs.Measures.{is_region}
use Rattle.crew_stations.specs.Stations.{StationPlan}
use Rattle.fleet_measures.specs.declared.kinds.FleetEnds.{FleetEnds}
use Rattle.fleet_measures.specs.FleetMeasures.{fleet_scale}
use Rattle.report_text.specs.Lists.{all_list_rows}
use Rattle.report_text.specs.Rows.{found_bytes}
use Rattle.fleet_text.specs.CrewRows.{crew_rows}
use Rattle.fleet_text.specs.FleetHeads.{fleet_head_bytes}
use Rattle.fleet_text.specs.FleetLabels.{fleet_label_bytes, fleet_subject}

-- the row of a measure
abbrev pub fleet_row : StationPlan → FleetEnds → List ℕ
fleet_row s e = fleet_label_bytes s e.measure ++ codes "," ++ found_bytes (fleet_scale e.measure) e.found ++ codes "\n"

-- a summary has only the region's measures
abbrev pub is_printed : Bool → FleetEnds → Bool
is_printed summary e = not summary || is_region (fleet_subject e.measure)

abbrev pub printed_ends : Bool → List FleetEnds → List FleetEnds
printed_ends summary items = filter (is_printed summary) items

abbrev pub fleet_bytes : StationPlan → List FleetEnds → Bool → List ℕ
fleet_bytes s items summary =
    fleet_head_bytes s
    ++ (if summary then [] else crew_rows s ++ all_list_rows s.parts)
    ++ flat_map (fleet_row s) (printed_ends summary items)
    ++ codes "end\n"

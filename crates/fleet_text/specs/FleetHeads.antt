-- The first rows of a fleet's report: the version of its form, and the line, the rates and the sizes of the fleet.
use Rattle.std.specs.Prelude.{ℕ, List, ◌++◌, codes}
use Rattle.text_lines.specs.Fields.{count_row}
use Rattle.hyper_model.specs.Plans.{all_calls}
use Rattle.crew_stations.specs.Stations.{StationPlan, all_crews, fleet_service, states, stations}
use Rattle.report_text.specs.Heads.{line_row}

-- the period in seconds, and the rates of all calls and of the service of all crews
abbrev pub rate_rows : StationPlan → List ℕ
rate_rows s =
    count_row (codes "period") s.parts.period
    ++ count_row (codes "calls") (all_calls s.parts)
    ++ count_row (codes "service") (fleet_service s)

-- how many stations, crews and states there are
abbrev pub size_rows : StationPlan → List ℕ
size_rows s =
    count_row (codes "stations") (stations s)
    ++ count_row (codes "crews") (all_crews s)
    ++ count_row (codes "states") (states s)

abbrev pub fleet_head_bytes : StationPlan → List ℕ
fleet_head_bytes s = count_row (codes "fleet") 1 ++ line_row s.parts.line ++ rate_rows s ++ size_rows s

-- The rows of how many crews each station has.
use Rattle.std.specs.Prelude.{ℕ, List, ◌++◌, codes}
use Rattle.std.specs.List.{flat_map, range_with_len}
use Rattle.text_lines.specs.Fields.{number_field}
use Rattle.crew_stations.specs.Stations.{StationPlan, crews_at, stations}
use Rattle.report_text.specs.Labels.{unit_field}

abbrev pub crew_row : StationPlan → ℕ → List ℕ
crew_row s k = codes "crews" ++ unit_field s.parts k ++ number_field (crews_at s k) ++ codes "\n"

abbrev pub crew_rows : StationPlan → List ℕ
crew_rows s = flat_map (crew_row s) (range_with_len 0 (stations s))

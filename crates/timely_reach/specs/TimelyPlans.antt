-- The plan whose trips are only timely or not: 1000 seconds if a trip takes at most so many, else none. Its mean travel
-- times in seconds are then the shares of the calls that are reached in time, in thousandths.
use Rattle.std.specs.Prelude.{ℕ, nat_le, if◌then◌else◌, map}
use Rattle.hyper_model.specs.Grid.{Grid}
use Rattle.hyper_model.specs.declared.parts.PlanParts.{PlanParts}

abbrev pub timely_seconds : ℕ → ℕ → ℕ
timely_seconds limit seconds = if nat_le seconds limit then 1000 else 0

abbrev pub timely_table : ℕ → Grid → Grid
timely_table limit table = record table { cells = map (timely_seconds limit) table.cells }

abbrev pub timely_plan : PlanParts → ℕ → PlanParts
timely_plan p limit = record p { travel = timely_table limit p.travel }

use Rattle.std.proofs.Common.{◌≡◌, ◌++◌}
use Rattle.std.specs.Prelude.{string_bytes}
use Rattle.std.specs.List.{flat_map, range_with_len}
use Rattle.worked_plans.specs.Streets.{street_trip_row}
use Rattle.worked_plans.proofs.streets.push_street_trips.Given as goal

abbrev pub invariant-loop-to : goal.invariant-loop-to
invariant-loop-to l = string_bytes l.text ≡ string_bytes l.fn.text ++ flat_map (street_trip_row l.from) (range_with_len 0 l.to)

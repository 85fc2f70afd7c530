use Rattle.std.proofs.Common.{◌≡◌, ◌-◌, ◌++◌}
use Rattle.std.specs.Prelude.{string_bytes}
use Rattle.std.specs.List.{flat_map, range_with_len}
use Rattle.worked_plans.specs.Widest.{wide_trip_row}
use Rattle.worked_plans.proofs.wide.push_wide_trips.Given as goal

abbrev pub invariant-loop-to : goal.invariant-loop-to
invariant-loop-to l = string_bytes l.text ≡ string_bytes l.fn.text ++ flat_map (wide_trip_row l.from) (range_with_len 1 (l.to - 1))

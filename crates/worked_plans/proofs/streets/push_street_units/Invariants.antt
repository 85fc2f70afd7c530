use Rattle.std.proofs.Common.{◌≡◌, ◌-◌, ◌++◌}
use Rattle.std.specs.Prelude.{string_bytes}
use Rattle.std.specs.List.{flat_map, range_with_len}
use Rattle.worked_plans.specs.Streets.{street_unit_rows}
use Rattle.worked_plans.proofs.streets.push_street_units.Given as goal

abbrev pub invariant-loop-n : goal.invariant-loop-n
invariant-loop-n l = string_bytes l.text ≡ string_bytes l.fn.text ++ flat_map street_unit_rows (range_with_len 1 (l.n - 1))

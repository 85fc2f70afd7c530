use Rattle.std.proofs.Common.{◌≡◌, ◌-◌, ◌++◌}
use Rattle.std.specs.Prelude.{string_bytes}
use Rattle.std.specs.List.{flat_map, range_with_len}
use Rattle.worked_plans.specs.Grids.{column_unit_rows}
use Rattle.worked_plans.proofs.grids.push_column_units.Given as goal

abbrev pub invariant-loop-unit : goal.invariant-loop-unit
invariant-loop-unit l = string_bytes l.text ≡ string_bytes l.fn.text ++ flat_map column_unit_rows (range_with_len 1 (l.unit - 1))

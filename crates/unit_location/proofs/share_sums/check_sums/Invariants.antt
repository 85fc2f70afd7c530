use Rattle.std.proofs.Common.{◌≡◌}
use Rattle.std.specs.Prelude.{◌==◌, find, not}
use Rattle.std.specs.List.{range_with_len}
use Rattle.atom_table.proofs.FirstBelow.{numbers_from}
use Rattle.unit_location.specs.Located.{row_sum}
use Rattle.unit_location.proofs.share_sums.check_sums.Given as goal

abbrev pub invariant-loop-unit : goal.invariant-loop-unit
invariant-loop-unit l =
    find (λ unit. not (row_sum l.table unit == 1000)) (numbers_from l.unit l.table.rows)
    ≡ find (λ unit. not (row_sum l.table unit == 1000)) (range_with_len 0 l.table.rows)

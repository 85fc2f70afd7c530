use Rattle.std.proofs.Common.{◌≡◌, ◌*◌, ◌^◌, ◌≤◌}
use Rattle.hyper_model.specs.Grid.{cell}
use Rattle.hyper_model.specs.Sums.{sum_below}
use Rattle.unit_location.proofs.share_sums.sum_of_row.Given as goal

abbrev pub invariant-loop-col : goal.invariant-loop-col
invariant-loop-col l = record { sum : l.total ≡ sum_below l.col (cell l.table l.row); most : l.total ≤ l.col * 2 ^ 32 }

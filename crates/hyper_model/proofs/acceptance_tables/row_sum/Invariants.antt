use Rattle.std.proofs.Common.{◌≡◌, ◌*◌, ◌^◌, ◌≤◌}
use Rattle.hyper_model.specs.Grid.{cell}
use Rattle.hyper_model.specs.Sums.{sum_below}
use Rattle.hyper_model.proofs.acceptance_tables.row_sum.Given as goal

abbrev pub invariant-loop-c : goal.invariant-loop-c
invariant-loop-c l = (l.total ≡ sum_below l.c (cell l.table l.r)) × (l.total ≤ l.c * 2 ^ 32)

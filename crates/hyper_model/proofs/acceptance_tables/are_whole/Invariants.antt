use Rattle.std.proofs.Common.{◌≡◌, ◌<◌, ℕ}
use Rattle.hyper_model.specs.Grid.{cell}
use Rattle.hyper_model.specs.Sums.{sum_below}
use Rattle.hyper_model.proofs.acceptance_tables.are_whole.Given as goal

abbrev pub invariant-loop-r : goal.invariant-loop-r
invariant-loop-r l = (r : ℕ) → r < l.r → sum_below l.table.cols (cell l.table r) ≡ 1000

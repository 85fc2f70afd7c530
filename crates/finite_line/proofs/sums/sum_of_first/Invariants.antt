use Rattle.std.proofs.Common.{◌≡◌, ◌*◌, ◌^◌, ◌≤◌}
use Rattle.finite_line.specs.PrintedEnds.{sum_of_weights}
use Rattle.finite_line.proofs.sums.sum_of_first.Given as goal

abbrev pub invariant-loop-place : goal.invariant-loop-place
invariant-loop-place l = record {
  sum : l.sum ≡ sum_of_weights l.place l.weights.items;
  most : l.sum.hi ≤ l.place * 2 ^ 52;
}

use Rattle.std.proofs.Common.{◌≡◌, ◌+◌, length}
use Rattle.rate_matrix.specs.Bands.{entry}
use Rattle.rate_matrix.specs.Weights.{AreWeightsOf}
use Rattle.back_solve.proofs.solve.solve_back.Given as goal

abbrev pub invariant-loop-state : goal.invariant-loop-state
invariant-loop-state l = record {
  weights : AreWeightsOf (entry l.m) l.state l.out.items;
  count : length l.out.items ≡ l.state;
  spare : l.out.spare + l.state ≡ l.fn.out.spare;
}

use Rattle.std.proofs.Common.{◌^◌}
use Rattle.rate_matrix.specs.Bands.{entry}
use Rattle.rate_matrix.proofs.Totals.{SumsTo}
use Rattle.back_solve.proofs.Solving.{flows_into}
use Rattle.back_solve.proofs.solve.inflow.Given as goal

abbrev pub invariant-loop-i : goal.invariant-loop-i
invariant-loop-i l = SumsTo (flows_into (entry l.m) l.weights.items l.state) (2 ^ 114) l.i l.sum

use Rattle.std.proofs.Common.{◌^◌}
use Rattle.rate_matrix.specs.Bands.{entry}
use Rattle.rate_matrix.proofs.Totals.{SumsTo}
use Rattle.rate_matrix.proofs.matrix.RateMatrix.total_leaving.Given as goal

abbrev pub invariant-loop-j : goal.invariant-loop-j
invariant-loop-j l = SumsTo (entry l.self l.state) (2 ^ 62) l.j l.sum

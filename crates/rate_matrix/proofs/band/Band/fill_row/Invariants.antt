use Rattle.rate_matrix.proofs.RowFilling.{IsFilledTo}
use Rattle.rate_matrix.proofs.band.Band.fill_row.Given as goal

abbrev pub invariant-loop-j : goal.invariant-loop-j
invariant-loop-j g l =
    IsFilledTo (g.C.Chain.rates l.chain) l.scale l.i l.j l.initial.self l.self l.outflow

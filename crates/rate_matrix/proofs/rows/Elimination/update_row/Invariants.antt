use Rattle.rate_matrix.proofs.RowUpdates.{IsRowUpdatedTo}
use Rattle.rate_matrix.proofs.rows.Elimination.update_row.Given as goal

abbrev pub invariant-loop-q : goal.invariant-loop-q
invariant-loop-q g l =
    IsRowUpdatedTo l.self l.i l.left l.initial.row l.row l.q

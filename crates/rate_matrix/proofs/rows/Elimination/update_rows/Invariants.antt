use Rattle.std.proofs.Common.{◌/◌, length}
use Rattle.rate_matrix.specs.Rows.{rows_from}
use Rattle.rate_matrix.proofs.RowsOfBand.{AreRowsUpdatedTo}
use Rattle.rate_matrix.proofs.rows.Elimination.update_rows.Given as goal

abbrev pub invariant-loop-r : goal.invariant-loop-r
invariant-loop-r g l =
    AreRowsUpdatedTo l.self
    (rows_from l.first (length l.initial.rows / l.width) l.left l.width l.initial.rows) l.rows l.r

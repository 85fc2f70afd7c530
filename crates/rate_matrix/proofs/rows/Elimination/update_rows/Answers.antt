use Rattle.std.proofs.Common.{◌/◌, ◌<◌, length, arith}
use Rattle.rate_matrix.specs.Rows.{rows_from}
use Rattle.rate_matrix.proofs.RowsOfBand.{can_slice, slice_more}
use Rattle.rate_matrix.proofs.rows.Elimination.update_rows.Goals as goal

pub update_row-requires : goal.update_row-requires
update_row-requires g c =
    let inside : c.loop-r.r < length c.args.rows.now / c.args.width = c.loop-r-test.true in
    can_slice c.args.self.now
    (rows_from c.args.first (length c.args.rows.now / c.args.width) c.args.left c.args.width c.args.rows.now) c.loop-r.rows c.loop-r.r
    c.requires c.loop-r.invariant inside _ (omega arith)

pub loop-r-preserved : goal.loop-r-preserved
loop-r-preserved g c =
    let inside : c.loop-r.r < length c.args.rows.now / c.args.width = c.loop-r-test.true in
    slice_more c.args.self.now
    (rows_from c.args.first (length c.args.rows.now / c.args.width) c.args.left c.args.width c.args.rows.now) c.loop-r.rows c.loop-r.r
    c.requires c.loop-r.invariant inside _ c.update_row.new.row (omega arith) c.update_row.ensures

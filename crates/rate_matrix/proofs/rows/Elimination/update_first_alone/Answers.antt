use Rattle.std.proofs.Common.{◌*◌, take, subst, sym}
use Rattle.std.proofs.lemmas.List.{take_at}
use Rattle.rate_matrix.specs.Rows.{AreAfter, rows_from}
use Rattle.rate_matrix.proofs.RowsOfBand.{can_first_rows, first_rows_after}
use Rattle.rate_matrix.proofs.rows.Elimination.update_first_alone.Goals as goal

pub update_rows-requires : goal.update_rows-requires
update_rows-requires g c =
    can_first_rows c.args.self.now c.args.first c.args.rows c.args.left c.args.width c.args.cells.now c.requires.inside
    c.requires.rows

pub returns-clause-rows : goal.returns-clause-rows
returns-clause-rows g c =
    let done = first_rows_after c.args.self.now c.args.first c.args.rows c.args.left c.args.width c.args.cells.now
    c.requires.inside c.requires.rows c.update_rows.new.rows c.update_rows.ensures in
    subst (AreAfter c.args.self.now
    (rows_from c.args.first c.args.rows c.args.left c.args.width (take (c.args.rows * c.args.width) c.args.cells.now)))
    (sym (take_at c.update_rows.new.rows _ _ done.0)) done.1

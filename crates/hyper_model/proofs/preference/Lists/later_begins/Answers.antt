use Rattle.std.proofs.Common.{rules}
use Rattle.hyper_model.proofs.ListRows.{later_part, row_seen, rows_seen}
use Rattle.hyper_model.proofs.preference.Lists.later_begins.Goals as goal

pub returns-clause-begins : goal.returns-clause-begins
returns-clause-begins c =
    let row = row_seen c.self.inside.units c.self.inside.rows.items c.args.atom c.index-row.result.now
    (rows_seen c.self.inside.units c.self.inside.rows.items c.args.self.now c.args.atom c.self.view_is c.requires) (search rules) in
    rw (← c.self.view_is, row) (later_part c.self.inside.units c.min.result c.index-row.result.now.begins (search rules))

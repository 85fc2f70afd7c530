use Rattle.std.proofs.Common.{rules}
use Rattle.hyper_model.proofs.ListRows.{join_written, rows_seen, units_seen}
use Rattle.hyper_model.proofs.preference.Lists.join.Goals as goal

pub returns : goal.returns
returns c = rw (← c.self.view_is) (join_written c.self.inside.units c.self.inside.rows.items c.args.atom c.args.place
    c.index_mut-row.result.now
    (rows_seen c.self.inside.units c.self.inside.rows.items c.args.self.now c.args.atom c.self.view_is c.requires.atom)
    (units_seen c.self.inside.units c.self.inside.rows.items c.args.self.now c.args.place c.self.view_is c.requires.place)
    (search rules))

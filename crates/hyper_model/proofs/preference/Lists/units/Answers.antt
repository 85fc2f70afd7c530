use Rattle.hyper_model.proofs.ListRows.{seen_regular}
use Rattle.hyper_model.proofs.preference.Lists.units.Goals as goal

pub returns-clause-regular : goal.returns-clause-regular
returns-clause-regular c = rw (← c.self.view_is) (seen_regular c.self.inside.units c.self.inside.rows.items c.self.invariant)

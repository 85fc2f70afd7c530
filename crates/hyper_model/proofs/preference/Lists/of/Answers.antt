use Rattle.std.proofs.Common.{rules}
use Rattle.hyper_model.proofs.ListRows.{first_seen}
use Rattle.hyper_model.proofs.preference.Lists.of.Goals as goal

pub returns : goal.returns
returns c = first_seen c.args.atoms c.args.units c.in_ok-rows.rows.items c.requires.units
    (c.in_ok-rows.ensures.items_if_clones_equal (λ y h. search rules))

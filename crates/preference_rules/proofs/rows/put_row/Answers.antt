use Rattle.std.proofs.Common.{◌∙◌, ap}
use Rattle.hyper_model.specs.Groups.{GroupLists}
use Rattle.preference_rules.specs.Rows.{with_begins}
use Rattle.preference_rules.proofs.GivenRows.{row-put}
use Rattle.preference_rules.proofs.rows.put_row.Goals as goal

pub returns : goal.returns
returns c =
    c.put_begins.ensures
    ∙ ap (λ (rows : GroupLists). with_begins rows c.args.atom c.args.begins.now) c.put_members.ensures
    ∙ row-put c.args.lists.now c.args.atom c.args.members.now c.args.begins.now c.requires.atom

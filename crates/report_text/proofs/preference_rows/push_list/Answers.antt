use Rattle.report_text.proofs.PlanLists.{read_within}
use Rattle.report_text.proofs.preference_rows.push_list.Goals as goal

pub push_prefer-requires-clause-units : goal.push_prefer-requires-clause-units
push_prefer-requires-clause-units c =
    read_within c.args.parts.now c.args.j c.from-atom.result c.list-members.result.now c.requires.lists
    c.requires.atom c.from-atom.ensures c.list-members.ensures.units

pub push_groups-requires-clause-units : goal.push_groups-requires-clause-units
push_groups-requires-clause-units c =
    read_within c.args.parts.now c.args.j c.from-atom.result c.list-members.result.now c.requires.lists
    c.requires.atom c.from-atom.ensures c.list-members.ensures.units

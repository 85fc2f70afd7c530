use Rattle.std.proofs.Common.{sym}
use Rattle.plan_reader.proofs.AcceptedPlan.{located_rows, whole_parts}
use Rattle.plan_reader.proofs.plan.read_parts.Goals as goal

pub preferences-requires-clause-units : goal.preferences-requires-clause-units
preferences-requires-clause-units c =
    (located_rows c.args.records.now c.in_ok-names.names c.in_ok-located.located c.in_ok-located.ensures).0

pub preferences-requires-clause-atoms : goal.preferences-requires-clause-atoms
preferences-requires-clause-atoms c =
    (located_rows c.args.records.now c.in_ok-names.names c.in_ok-located.located c.in_ok-located.ensures).1

pub returns-clause-whole : goal.returns-clause-whole
returns-clause-whole c =
    rw (c.into_parts-units.ensures.units, c.into_parts-units.ensures.atoms, c.into_table.ensures.table, c.into_table-2.ensures)
    (whole_parts c.args.added c.args.records.now c.in_ok-settings.settings c.in_ok-names.names c.in_ok-travel.travel c.in_ok-located.located
    c.in_ok-lists.lists c.requires (sym c.in_ok-settings.ensures) c.in_ok-names.ensures c.in_ok-travel.ensures c.in_ok-located.ensures
    c.in_ok-lists.ensures)

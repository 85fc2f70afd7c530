use Rattle.std.proofs.Common.{◌++◌}
use Rattle.std.specs.Prelude.{codes}
use Rattle.report_text.specs.Labels.{atom_field, unit_field}
use Rattle.report_text.proofs.GroupRows.{start_text, next_text}
use Rattle.report_text.proofs.preference_rows.push_groups.Goals as goal

pub loop-place-init : goal.loop-place-init
loop-place-init c =
    let p = c.args.parts.now in
    start_text c.args.text.now.items c.push_first.new.text.items c.push_unit.new.text.items
    (codes "group" ++ atom_field p c.args.j) (unit_field p) c.args.members.now c.args.begins.now
    c.requires.some c.in_ok-push_first.ensures c.in_ok-push_unit.ensures

pub loop-place-preserved : goal.loop-place-preserved
loop-place-preserved c =
    let p = c.args.parts.now in
    next_text c.loop-place.text.items c.push_break.new.text.items c.push_unit-in-loop-place.new.text.items _
    (codes "group" ++ atom_field p c.args.j) (unit_field p) c.args.members.now c.args.begins.now
    c.loop-place.place _ c.loop-place.auto.place c.loop-place-test.true c.requires.one_each c.loop-place.invariant
    c.in_ok-push_break.ensures c.in_ok-push_unit-2.ensures

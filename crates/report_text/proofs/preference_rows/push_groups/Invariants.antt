use Rattle.std.proofs.Common.{◌≡◌, ◌-◌, ◌++◌, drop}
use Rattle.std.specs.Prelude.{codes}
use Rattle.std.specs.List.{flat_map}
use Rattle.hyper_model.specs.Groups.{groups_from}
use Rattle.report_text.specs.Labels.{atom_field, unit_field}
use Rattle.report_text.specs.Lists.{list_row}
use Rattle.report_text.proofs.GroupRows.{text_left}
use Rattle.report_text.proofs.preference_rows.push_groups.Given as goal

abbrev pub invariant-loop-place : goal.invariant-loop-place
invariant-loop-place l =
    l.text.items
    ++ text_left (codes "group" ++ atom_field l.parts l.j) (unit_field l.parts)
    (drop l.place l.members) (drop (l.place - 1) l.begins)
    ≡ l.fn.text.items ++ flat_map (list_row l.parts (codes "group") l.j) (groups_from l.members l.begins)

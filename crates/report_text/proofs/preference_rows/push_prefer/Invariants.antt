use Rattle.std.proofs.Common.{◌≡◌, ◌++◌, take}
use Rattle.std.specs.Prelude.{codes}
use Rattle.std.specs.List.{flat_map}
use Rattle.report_text.specs.Labels.{atom_field, unit_field}
use Rattle.report_text.proofs.preference_rows.push_prefer.Given as goal

abbrev pub invariant-loop-n : goal.invariant-loop-n
invariant-loop-n l = l.text.items
    ≡ l.fn.text.items ++ (codes "prefer" ++ atom_field l.parts l.j ++ flat_map (unit_field l.parts) (take l.n-index l.members))

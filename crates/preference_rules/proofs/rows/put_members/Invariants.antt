use Rattle.std.proofs.Common.{◌≡◌, ◌++◌, take, drop}
use Rattle.hyper_model.specs.Groups.{list_of}
use Rattle.preference_rules.specs.Rows.{with_members}
use Rattle.preference_rules.proofs.rows.put_members.Given as goal

abbrev pub invariant-loop-place : goal.invariant-loop-place
invariant-loop-place l =
    l.lists ≡ with_members l.initial.lists l.atom (take l.place l.members ++ drop l.place (list_of l.initial.lists l.atom))

use Rattle.std.proofs.Common.{◌≡◌}
use Rattle.preference_rules.specs.Rows.{with_begins}
use Rattle.preference_rules.proofs.GivenRows.{begun}
use Rattle.preference_rules.proofs.rows.put_begins.Given as goal

abbrev pub invariant-loop-place : goal.invariant-loop-place
invariant-loop-place l = l.lists ≡ with_begins l.initial.lists l.atom (begun l.begins l.initial.lists.units l.place)

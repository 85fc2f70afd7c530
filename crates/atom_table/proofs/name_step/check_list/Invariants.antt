use Rattle.std.proofs.Common.{◌≡◌, ◌+◌, drop}
use Rattle.atom_table.specs.Refusals.{unknown_from}
use Rattle.atom_table.proofs.name_step.check_list.Given as goal

abbrev pub invariant-loop-place : goal.invariant-loop-place
invariant-loop-place l = unknown_from l.units l.at (l.place + 3) (drop l.place l.list) ≡ unknown_from l.units l.at 3 l.list

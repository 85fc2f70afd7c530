use Rattle.std.proofs.Common.{◌≡◌, take}
use Rattle.atom_table.specs.Entries.{unit_names}
use Rattle.day_replay.proofs.day_names.index_units.Given as goal

abbrev pub invariant-loop-n : goal.invariant-loop-n
invariant-loop-n l = l.names ≡ unit_names (take l.n l.plan.units)

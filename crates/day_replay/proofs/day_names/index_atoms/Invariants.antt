use Rattle.std.proofs.Common.{◌≡◌, take}
use Rattle.atom_table.specs.Entries.{atom_names}
use Rattle.day_replay.proofs.day_names.index_atoms.Given as goal

abbrev pub invariant-loop-j : goal.invariant-loop-j
invariant-loop-j l = l.names ≡ atom_names (take l.j l.plan.atoms)

use Rattle.std.proofs.Common.{◌≡◌, take}
use Rattle.atom_table.specs.Entries.{unit_names}
use Rattle.plan_reader.specs.Crews.{crews_in}
use Rattle.plan_reader.proofs.crews.crews_of.Given as goal

abbrev pub invariant-loop-k : goal.invariant-loop-k
invariant-loop-k l = l.crews ≡ crews_in (unit_names (take l.k l.stations)) l.records

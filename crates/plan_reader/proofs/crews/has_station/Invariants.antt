use Rattle.std.proofs.Common.{◌≡◌, drop}
use Rattle.atom_table.specs.Entries.{unit_names}
use Rattle.atom_table.specs.Names.{is_among}
use Rattle.plan_reader.proofs.crews.has_station.Given as goal

abbrev pub invariant-loop-k : goal.invariant-loop-k
invariant-loop-k l = is_among (unit_names (drop l.k l.stations)) l.name ≡ is_among (unit_names l.stations) l.name

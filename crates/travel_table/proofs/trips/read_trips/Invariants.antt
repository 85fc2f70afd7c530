use Rattle.std.proofs.Common.{◌<◌, length}
use Rattle.atom_table.proofs.PairSteps.{AreReadTo}
use Rattle.travel_table.specs.Travel.{trip_in}
use Rattle.travel_table.specs.declared.refusal.TravelRefusal.TheVariants.{DuplicateTravel}
use Rattle.travel_table.proofs.trips.read_trips.Given as goal

abbrev pub invariant-loop-item : goal.invariant-loop-item
invariant-loop-item l = record {
  some : 0 < length l.names.atoms;
  read : AreReadTo DuplicateTravel (trip_in l.names) (length l.names.atoms) (length l.names.atoms) l.records l.item-index l.trips;
}

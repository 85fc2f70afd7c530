use Rattle.std.proofs.Common.{◌≡◌, ◌++◌, All, map, take}
use Rattle.fleet_measures.specs.FleetEnclosures.{of_station}
use Rattle.fleet_measures.specs.FleetMeasures.{IsOrderedFleetEnds}
use Rattle.fleet_measures.proofs.listing.push_all.Given as goal

abbrev pub invariant-loop-item : goal.invariant-loop-item
invariant-loop-item l = record {
  items : l.found.items ≡ l.initial.found.items ++ map of_station (take l.item-index l.items);
  ordered : All IsOrderedFleetEnds l.found.items;
}

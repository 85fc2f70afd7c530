use Rattle.std.proofs.Common.{◌≡◌, ◌++◌, All, map}
use Rattle.std.specs.List.{range_with_len}
use Rattle.fleet_measures.specs.FleetEnclosures.{full_of}
use Rattle.fleet_measures.specs.FleetMeasures.{IsOrderedFleetEnds}
use Rattle.fleet_measures.proofs.listing.push_full.Given as goal

abbrev pub invariant-loop-k : goal.invariant-loop-k
invariant-loop-k l = record {
  items : l.found.items ≡ l.initial.found.items ++ map (full_of l.plan l.order l.gathered.items) (range_with_len 0 l.k);
  ordered : All IsOrderedFleetEnds l.found.items;
}

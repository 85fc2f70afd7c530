use Rattle.std.proofs.Common.{◌≡◌, ◌++◌, All, map}
use Rattle.std.specs.List.{range_with_len}
use Rattle.fleet_measures.specs.FleetEnclosures.{crew_workload_of}
use Rattle.fleet_measures.specs.FleetMeasures.{IsOrderedFleetEnds}
use Rattle.fleet_measures.proofs.listing.push_workloads.Given as goal

abbrev pub invariant-loop-k : goal.invariant-loop-k
invariant-loop-k l = record {
  items : l.found.items ≡ l.initial.found.items ++ map (crew_workload_of l.fleet l.weights.items) (range_with_len 0 l.k);
  ordered : All IsOrderedFleetEnds l.found.items;
}

use Rattle.hyper_model.proofs.Ranges.{all_pushed, map_more}
use Rattle.fleet_measures.specs.FleetEnclosures.{crew_workload_of}
use Rattle.fleet_measures.specs.FleetMeasures.{IsOrderedFleetEnds}
use Rattle.fleet_measures.proofs.listing.push_workloads.Goals as goal

pub loop-k-preserved : goal.loop-k-preserved
loop-k-preserved c = record {
  items = map_more (crew_workload_of c.args.fleet.now c.args.weights.now.items) c.args.found.now.items c.loop-k.found.items
      c.push.new.self.items c.loop-k.k c.crew_workload.result c.loop-k.invariant.items c.crew_workload.ensures.exact
      c.in_ok-push.ensures.items;
  ordered = all_pushed IsOrderedFleetEnds c.loop-k.found.items c.push.new.self.items c.crew_workload.result
      c.loop-k.invariant.ordered c.crew_workload.ensures.ordered c.in_ok-push.ensures.items;
}

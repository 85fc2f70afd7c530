use Rattle.hyper_model.proofs.Ranges.{all_pushed, map_more}
use Rattle.fleet_measures.specs.FleetEnclosures.{full_of}
use Rattle.fleet_measures.specs.FleetMeasures.{IsOrderedFleetEnds}
use Rattle.fleet_measures.proofs.listing.push_full.Goals as goal

pub loop-k-preserved : goal.loop-k-preserved
loop-k-preserved c = record {
  items = map_more (full_of c.args.plan.now c.args.order.now c.args.gathered.now.items) c.args.found.now.items
      c.loop-k.found.items c.push.new.self.items c.loop-k.k c.full.result c.loop-k.invariant.items c.full.ensures.exact
      c.in_ok-push.ensures.items;
  ordered = all_pushed IsOrderedFleetEnds c.loop-k.found.items c.push.new.self.items c.full.result
      c.loop-k.invariant.ordered c.full.ensures.ordered c.in_ok-push.ensures.items;
}

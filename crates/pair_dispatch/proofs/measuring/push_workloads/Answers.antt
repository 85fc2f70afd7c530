use Rattle.hyper_model.proofs.Ranges.{map_more}
use Rattle.pair_dispatch.specs.PairEnds.{workload_of}
use Rattle.pair_dispatch.proofs.measuring.push_workloads.Goals as goal

pub loop-unit-preserved : goal.loop-unit-preserved
loop-unit-preserved c =
    map_more (workload_of c.args.plan.now c.args.order.now c.args.weights.now.items) c.args.found.now.items
    c.loop-unit.found.items c.push.new.self.items c.loop-unit.unit c.share_of-workload.result c.loop-unit.invariant
    c.share_of-workload.ensures c.in_ok-push.ensures.items

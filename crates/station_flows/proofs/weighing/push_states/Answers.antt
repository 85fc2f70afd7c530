use Rattle.std.proofs.Common.{arith}
use Rattle.hyper_model.specs.Solutions.{mass_in}
use Rattle.station_flows.proofs.Enclosing.{weights_more}
use Rattle.station_flows.proofs.weighing.push_states.Goals as goal

pub loop-state-preserved : goal.loop-state-preserved
loop-state-preserved c = record {
  items = weights_more (mass_in c.args.low.now) (mass_in c.args.high.now) c.loop-state.state c.loop-state.weights.items
      c.push_shifting.new.self.items c.weight_between.result c.loop-state.invariant.items c.weight_between.ensures.ends
      c.weight_between.ensures.most c.push_shifting.ensures.items;
  spare = omega (arith, c.push_shifting.ensures.spare);
}

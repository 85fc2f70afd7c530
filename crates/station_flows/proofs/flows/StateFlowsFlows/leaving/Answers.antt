use Rattle.std.proofs.Common.{◌≡◌, ◌<◌, length, ◌∙◌, arith}
use Rattle.std.specs.Prelude.{slice_index}
use Rattle.std.proofs.lemmas.Grind.{get_or_default_zero}
use Rattle.station_flows.proofs.StateRates.{leaving_here, leavings_small}
use Rattle.station_flows.proofs.flows.StateFlowsFlows.leaving.Goals as goal

pub returns : goal.returns
returns c =
    let flows = c.args.self.now in
    let inside : c.args.state < length flows.leavings.items = omega (arith, flows.leaves.one_each, c.requires) in
    let read : c.index.result.now ≡ slice_index flows.leavings.items c.args.state =
    c.index.ensures ∙ get_or_default_zero flows.leavings.items c.args.state c.index.result.now inside in
    record {
      rate = read ∙ leaving_here flows.numbers flows.leavings.items flows.leaves c.args.state c.requires;
      most = omega (
        arith,
        read,
        (leavings_small flows.numbers c.fleet-fleet.ensures.within flows.leavings.items flows.leaves).small c.args.state,
      );
    }

use Rattle.std.proofs.Common.{◌≡◌, ◌+◌, ap, sym, ◌∙◌, arith}
use Rattle.hyper_model.specs.Solutions.{mass_in}
use Rattle.hyper_model.specs.Sums.{sum_below}
use Rattle.crew_stations.specs.StateFlows.{came_ended, came_sent}
use Rattle.crew_stations.specs.Stations.{stations}
use Rattle.crew_stations.proofs.Flows.{inflow_is}
use Rattle.station_flows.proofs.flows.StateFlowsFlows.inflow.Goals as goal

pub returns-clause-flow : goal.returns-clause-flow
returns-clause-flow c =
    let s = c.args.self.now.numbers in
    let y = mass_in c.args.masses.now in
    let all : c.loop-station.station ≡ stations s = omega (arith, c.stations-station-end.ensures.stations) in
    c.loop-station.invariant.flow
    ∙ ap (λ n. sum_below n (λ k. came_sent s y c.args.state k + came_ended s y c.args.state k)) all
    ∙ sym (inflow_is s y c.args.state c.requires.state)

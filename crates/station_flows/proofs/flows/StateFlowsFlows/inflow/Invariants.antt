use Rattle.std.proofs.Common.{◌≡◌, ◌+◌, ◌*◌, ◌^◌, ◌≤◌}
use Rattle.hyper_model.specs.Solutions.{mass_in}
use Rattle.hyper_model.specs.Sums.{sum_below}
use Rattle.crew_stations.specs.StateFlows.{came_ended, came_sent}
use Rattle.station_flows.proofs.flows.StateFlowsFlows.inflow.Given as goal

abbrev pub invariant-loop-station : goal.invariant-loop-station
invariant-loop-station l = record {
  flow : l.flow ≡ sum_below l.station
      (λ k. came_sent l.self.numbers (mass_in l.masses) l.state k + came_ended l.self.numbers (mass_in l.masses) l.state k);
  most : l.flow ≤ l.station * 2 ^ 91;
}

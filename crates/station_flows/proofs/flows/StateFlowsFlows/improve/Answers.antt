use Rattle.std.proofs.Common.{◌^◌, sym, subst}
use Rattle.crew_stations.specs.Stations.{states}
use Rattle.state_certificate.specs.Masses.{AreMasses}
use Rattle.station_flows.proofs.StateRates.{leavings_small}
use Rattle.station_flows.proofs.flows.StateFlowsFlows.improve.Goals as goal

pub balance_levels-requires-clause-leavings : goal.balance_levels-requires-clause-leavings
balance_levels-requires-clause-leavings c =
    let flows = c.args.self.now in
    subst (λ list. AreMasses (states flows.numbers) (2 ^ 54) list) (sym c.deref.ensures.value)
    (leavings_small flows.numbers c.fleet-fleet.ensures.within flows.leavings.items flows.leaves)

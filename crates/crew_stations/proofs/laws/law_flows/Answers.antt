use Rattle.crew_stations.proofs.Flows.{inflow_is, outflow_is}
use Rattle.crew_stations.proofs.laws.law_flows.Goals as goal

pub returns : goal.returns
returns c = record { inflow = inflow_is; outflow = outflow_is }

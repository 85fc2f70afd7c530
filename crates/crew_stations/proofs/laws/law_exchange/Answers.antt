use Rattle.crew_stations.proofs.Sharing.{crews_share_workloads, crews_share_travel, crews_share_dispatches}
use Rattle.crew_stations.proofs.Spreading.{states_even}
use Rattle.crew_stations.proofs.Swapping.{crews_are_alike}
use Rattle.crew_stations.proofs.laws.law_exchange.Goals as goal

pub returns : goal.returns
returns c = record {
  words = crews_are_alike;
  states = states_even;
  workloads = crews_share_workloads;
  travel = crews_share_travel;
  dispatches = crews_share_dispatches;
}

use Rattle.crew_stations.proofs.Balance.{chain_solvable}
use Rattle.crew_stations.proofs.Spreading.{words_spread}
use Rattle.crew_stations.proofs.StateChain.{states_proportional}
use Rattle.crew_stations.proofs.laws.law_stations.Goals as goal

pub returns : goal.returns
returns c = record {
  solvable = chain_solvable;
  proportional = states_proportional;
  spread = words_spread;
}

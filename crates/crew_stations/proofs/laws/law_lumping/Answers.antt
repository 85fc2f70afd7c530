use Rattle.crew_stations.proofs.Balance.{states_balance}
use Rattle.crew_stations.proofs.laws.law_lumping.Goals as goal

pub returns : goal.returns
returns c = states_balance

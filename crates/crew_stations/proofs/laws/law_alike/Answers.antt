use Rattle.crew_stations.proofs.Exchanging.{exchanged_balance}
use Rattle.crew_stations.proofs.laws.law_alike.Goals as goal

pub returns : goal.returns
returns c = exchanged_balance

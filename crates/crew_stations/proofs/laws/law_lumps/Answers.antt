use Rattle.crew_stations.proofs.Lumping.{classes_balance}
use Rattle.crew_stations.proofs.laws.law_lumps.Goals as goal

pub returns : goal.returns
returns c = classes_balance

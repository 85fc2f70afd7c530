use Rattle.crew_stations.proofs.Expanding.{expanded_accepted, expanded_stationed, expanded_solvable}
use Rattle.crew_stations.proofs.laws.law_crews.Goals as goal

pub returns : goal.returns
returns c = record { accepted = expanded_accepted; stationed = expanded_stationed; solvable = expanded_solvable }

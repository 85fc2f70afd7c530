use Rattle.crew_stations.proofs.OneCrewEach.{words_are_states, measures_of_plan}
use Rattle.crew_stations.proofs.laws.law_one_crew_each.Goals as goal

pub returns : goal.returns
returns c = record { words = words_are_states; measures = measures_of_plan }

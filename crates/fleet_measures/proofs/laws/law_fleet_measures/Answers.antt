use Rattle.fleet_measures.proofs.Contain.{fleet_contained, fleet_in_range}
use Rattle.fleet_measures.proofs.CrewWeights.{crews_enclosed}
use Rattle.fleet_measures.proofs.Denominators.{positive_denominators}
use Rattle.fleet_measures.proofs.EachCrew.{each_crew}
use Rattle.fleet_measures.proofs.laws.law_fleet_measures.Goals as goal

pub returns : goal.returns
returns c = record {
  contains = fleet_contained;
  encloses = crews_enclosed;
  each_crew = each_crew;
  in_range = fleet_in_range;
  positive = positive_denominators;
}

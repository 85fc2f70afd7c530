use Rattle.crew_stations.specs.Laws.{StatesBalance, MeasuresAreOfStates, SharesAreOfStates, CrewsShareWorkloads, CrewsShareTravel, CrewsShareDispatches}
use Rattle.crew_stations.specs.Spreads.{AreWordsSpread}
use Rattle.crew_stations.proofs.Balance.{states_balance}
use Rattle.crew_stations.proofs.Exhausted.{shares_are_of_states}
use Rattle.crew_stations.proofs.Expanding.{of_crews}
use Rattle.crew_stations.proofs.Positive.{positive_crews, positive_states}
use Rattle.crew_stations.proofs.Ratios.{measures_are_of_states}
use Rattle.crew_stations.proofs.Sharing.{crews_share_workloads, crews_share_travel, crews_share_dispatches}
use Rattle.crew_stations.proofs.Spreading.{words_spread}
use Rattle.crew_stations.proofs.laws.law_expanded.Goals as goal

pub returns : goal.returns
returns c = record {
  states = of_crews StatesBalance states_balance;
  measures = of_crews MeasuresAreOfStates measures_are_of_states;
  crews_positive = positive_crews;
  states_positive = positive_states;
  full = of_crews SharesAreOfStates shares_are_of_states;
  workloads = of_crews CrewsShareWorkloads crews_share_workloads;
  travel = of_crews CrewsShareTravel crews_share_travel;
  dispatches = of_crews CrewsShareDispatches crews_share_dispatches;
  spread = of_crews AreWordsSpread words_spread;
}

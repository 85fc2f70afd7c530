-- The fleets of stations whose states are weighed: so many crews, stations and states at most.
use Rattle.std.specs.Prelude.{◌≤◌}
use Rattle.hyper_model.specs.declared.TheConstants.{MOST_UNITS}
use Rattle.crew_stations.specs.declared.TheConstants.{MOST_CREWS, MOST_STATES}
use Rattle.crew_stations.specs.Stations.{StationPlan, stations, states, IsAcceptedFleet}

pub record IsFleet (s : StationPlan) : Type 0 where
  pub accepted : IsAcceptedFleet MOST_CREWS s
  pub few_stations : stations s ≤ MOST_UNITS
  pub few_states : states s ≤ MOST_STATES

-- What is proved of the report of a fleet.
use Rattle.std.specs.Prelude.{◌≡◌, ℕ, Bool, List, Result, Ok}
use Rattle.hyper_model.specs.Solutions.{HasSolution}
use Rattle.crew_stations.specs.Expanded.{expanded}
use Rattle.crew_stations.specs.Fleets.{IsFleet}
use Rattle.crew_stations.specs.Stations.{StationPlan}
use Rattle.fleet_measures.specs.FleetEnclosures.{IsFleetEnclosure}
use Rattle.fleet_measures.specs.FleetMeasures.{ContainsCrews, ContainsEachCrew, HavePositiveFleetDenominators}
use Rattle.fleet_measures.specs.declared.kinds.FleetEnds.{FleetEnds}
use Rattle.fleet_text.specs.FleetReports.{fleet_bytes}
use Rattle.hypercube_cli.specs.Endings.{Ending}

-- The text is the report, or the summary, of this fleet. The balance equations of the plan with a unit for each crew have a
-- solution. The measures have the ends of the method, and for each solution these contain what Larson's formulas give, of
-- the crews of a station together and of each crew by itself: ratios whose denominators are positive.
pub record IsTrueFleet (s : StationPlan) (summary : Bool) (text : List ℕ) : Type 0 where
  pub solvable : HasSolution (expanded s)
  pub positive : HavePositiveFleetDenominators s
  pub list : List FleetEnds
  pub enclosed : IsFleetEnclosure s list
  pub written : text ≡ fleet_bytes s list summary
  pub contains : ContainsCrews s list
  pub each_crew : ContainsEachCrew s list

-- And the fleet is the one that was read, which is within the limits.
pub record IsProvedFleet (given : Result StationPlan Ending) (summary : Bool) (text : List ℕ) : Type 0 where
  pub fleet : StationPlan
  pub read : given ≡ Ok fleet
  pub accepted : IsFleet fleet
  pub reported : IsTrueFleet fleet summary text

-- What all mean travel times of a plan have in common.
use Rattle.std.specs.Prelude.{◌≡◌, ◌*◌, ◌≤◌}
use Rattle.hyper_model.specs.declared.TheConstants.{MOST_TRAVEL}
use Rattle.hyper_model.specs.declared.parts.PlanParts.{PlanParts}
use Rattle.hyper_model.specs.Plans.{all_calls}
use Rattle.travel_measures.specs.TravelEnds.{longest_mean}
use Rattle.travel_measures.specs.declared.totals.TravelTotals.{TravelTotals}

-- the rate of all calls, and the longest travel time in thousandths of a second
pub record AreTravelTotals (p : PlanParts) (totals : TravelTotals) : Type 0 where
  pub calls : totals.calls ≡ all_calls p
  pub longest : totals.longest ≡ longest_mean p
  pub most : totals.longest ≤ 1000 * MOST_TRAVEL

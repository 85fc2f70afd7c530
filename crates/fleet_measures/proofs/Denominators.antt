-- No measure of a fleet that has a value is a ratio over 0.
use Rattle.std.proofs.Common.{◌≡◌, ℕ, ◌<◌, false, List}
use Rattle.hyper_model.specs.Solutions.{mass_in, IsSolution}
use Rattle.hyper_model.proofs.Masses.{mass_positive}
use Rattle.crew_stations.specs.Expanded.{expanded}
use Rattle.crew_stations.specs.Fleets.{IsFleet}
use Rattle.crew_stations.specs.Stations.{StationPlan}
use Rattle.crew_stations.proofs.Positive.{positive_crews}
use Rattle.fleet_measures.specs.declared.kinds.FleetMeasure.{FleetMeasure}
use Rattle.fleet_measures.specs.declared.kinds.FleetMeasure.TheVariants as fleet
use Rattle.fleet_measures.specs.FleetMeasures.{HavePositiveFleetDenominators, IsInFleet, fleet_ratio, has_no_value}

of_measure : (s : StationPlan) → IsFleet s → (xs : List ℕ) (z : ℕ) → IsSolution (expanded s) xs z
    → (m : FleetMeasure) → IsInFleet s m → has_no_value s m ≡ false → 0 < (fleet_ratio s (mass_in xs) z m).denominator
of_measure s f xs z solves (fleet.Of m) r v = positive_crews _ s f.accepted xs z solves m r v
of_measure s f xs z solves (fleet.Full k) r v = mass_positive (expanded s) xs z solves

pub positive_denominators : (s : StationPlan) → IsFleet s → HavePositiveFleetDenominators s
positive_denominators s f = of_measure s f

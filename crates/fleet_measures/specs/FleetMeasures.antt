-- The measures of a fleet of stations: those of a plan, of stations in place of units, and of each station the share of
-- time in which none of its crews is free. Their values are those of the plan with a unit for each crew.
use Rattle.std.specs.Prelude.{◌≡◌, ℕ, ◌<◌, Bool, true, false, List, All, Contains}
use Rattle.fleet_measures.specs.declared.kinds.FleetMeasure.{FleetMeasure}
use Rattle.fleet_measures.specs.declared.kinds.FleetMeasure.TheVariants as fleet
use Rattle.fleet_measures.specs.declared.kinds.FleetEnds.{FleetEnds}
use Rattle.hyper_model.specs.declared.kinds.Found.{Found}
use Rattle.hyper_model.specs.declared.kinds.Found.TheVariants as found
use Rattle.hyper_model.specs.declared.kinds.Measure.TheVariants as measure
use Rattle.hyper_model.specs.Enclosures.{IsOrderedFound}
use Rattle.hyper_model.specs.Measures.{Ratio, ContainsRatio, IsInRange, is_without, measure_of, scale_of}
use Rattle.hyper_model.specs.Solutions.{mass_in, IsSolution}
use Rattle.crew_stations.specs.CrewMeasures.{crew_measure, exhausted_share}
use Rattle.crew_stations.specs.Expanded.{station_of, expanded}
use Rattle.crew_stations.specs.Stations.{StationPlan, stations, all_crews}

-- the last printed digit of times is a thousandth of a second, of all else a millionth
abbrev pub fleet_scale : FleetMeasure → ℕ
fleet_scale (fleet.Of m) = scale_of m
fleet_scale (fleet.Full k) = 1000000

-- its value in a solution x, z of the plan with a unit for each crew: Larson's formulas, summed over a station's crews
abbrev pub fleet_ratio : StationPlan → (ℕ → ℕ) → ℕ → FleetMeasure → Ratio
fleet_ratio s x z (fleet.Of m) = crew_measure (expanded s) (station_of s) x z m
fleet_ratio s x z (fleet.Full k) = exhausted_share (expanded s) (station_of s) x z k

-- no call comes from the district that it speaks of
abbrev pub has_no_value : StationPlan → FleetMeasure → Bool
has_no_value s (fleet.Of m) = is_without s.parts m
has_no_value s (fleet.Full k) = false

-- the station and the atom are the fleet's
abbrev pub IsInFleet : StationPlan → FleetMeasure → Type 0
IsInFleet s (fleet.Of m) = IsInRange s.parts m
IsInFleet s (fleet.Full k) = k < stations s

abbrev pub AreInFleet : StationPlan → List FleetEnds → Type 0
AreInFleet s items = All (λ e. IsInFleet s e.measure) items

-- a low end is at most its high end
abbrev pub IsOrderedFleetEnds : FleetEnds → Type 0
IsOrderedFleetEnds e = IsOrderedFound e.found

-- no measure that has a value is a ratio over 0, in any solution
abbrev pub HavePositiveFleetDenominators : StationPlan → Type 0
HavePositiveFleetDenominators s =
    (xs : List ℕ) (z : ℕ) → IsSolution (expanded s) xs z
    → (m : FleetMeasure) → IsInFleet s m → has_no_value s m ≡ false → 0 < (fleet_ratio s (mass_in xs) z m).denominator

-- for these masses the measure has a value, and the ends contain it; or nothing was found, and it has none
abbrev pub IsFleetFound : StationPlan → (ℕ → ℕ) → ℕ → FleetMeasure → Found → Type 0
IsFleetFound s x z m (found.Ends lo hi) =
    (has_no_value s m ≡ false) × ContainsRatio lo hi (fleet_scale m) (fleet_ratio s x z m)
IsFleetFound s x z m found.Without = has_no_value s m ≡ true

-- whatever solution of the plan with a unit for each crew the masses are taken from
abbrev pub ContainsCrews : StationPlan → List FleetEnds → Type 0
ContainsCrews s items =
    (xs : List ℕ) (z : ℕ) → IsSolution (expanded s) xs z
    → All (λ e. IsFleetFound s (mass_in xs) z e.measure e.found) items

-- the list gives these ends for this measure
abbrev pub HasEnds : List FleetEnds → FleetMeasure → ℕ → ℕ → Type 0
HasEnds items m lo hi = Contains items (record { measure = m; found = found.Ends lo hi })

-- the ends of the workload of crew n's station contain that of crew n by itself, and so do those of its mean travel time
pub record ContainsCrew (s : StationPlan) (x : ℕ → ℕ) (z : ℕ) (items : List FleetEnds) (n : ℕ) : Type 0 where
  pub workload : (lo hi : ℕ) → HasEnds items (fleet.Of (measure.Workload (station_of s n))) lo hi
      → ContainsRatio lo hi 1000000 (measure_of (expanded s) x z (measure.Workload n))
  pub travel : (lo hi : ℕ) → HasEnds items (fleet.Of (measure.TravelUnit (station_of s n))) lo hi
      → ContainsRatio lo hi 1000 (measure_of (expanded s) x z (measure.TravelUnit n))

-- so it is for each crew, in whatever solution
abbrev pub ContainsEachCrew : StationPlan → List FleetEnds → Type 0
ContainsEachCrew s items =
    (xs : List ℕ) (z : ℕ) → IsSolution (expanded s) xs z
    → (n : ℕ) → n < all_crews s → ContainsCrew s (mass_in xs) z items n

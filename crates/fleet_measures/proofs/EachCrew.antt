-- Ends that contain the workload and the mean travel time of a station contain those of each of its crews.
use Rattle.std.proofs.Common.{◌≡◌, ℕ, ◌<◌, false, List, refl, sym, arith}
use Rattle.std.proofs.lemmas.List.Elements.{All-contains}
use Rattle.hyper_model.specs.declared.kinds.Measure.{Measure}
use Rattle.hyper_model.specs.declared.kinds.Measure.TheVariants as measure
use Rattle.hyper_model.specs.declared.kinds.Found.TheVariants as found
use Rattle.hyper_model.specs.Laws.{IsSameRatio}
use Rattle.hyper_model.specs.Measures.{ContainsRatio, IsInRange, is_without, measure_of, scale_of}
use Rattle.hyper_model.specs.Plans.{units}
use Rattle.hyper_model.specs.Solutions.{mass_in, IsSolution}
use Rattle.crew_stations.specs.CrewMeasures.{crew_measure}
use Rattle.crew_stations.specs.Expanded.{station_of, expanded}
use Rattle.crew_stations.specs.Fleets.{IsFleet}
use Rattle.crew_stations.specs.Laws.{CrewsShareTravel, CrewsShareWorkloads, MeasuresAreOfStates}
use Rattle.crew_stations.specs.StateMeasures.{state_measure}
use Rattle.crew_stations.specs.Stations.{StationPlan, all_crews, stations}
use Rattle.crew_stations.proofs.Expanding.{of_crews, stationed, units_are}
use Rattle.crew_stations.proofs.Positive.{positive_crews, positive_states}
use Rattle.crew_stations.proofs.Ratios.{ends_of_equal, measures_are_of_states, same_of_multiple}
use Rattle.crew_stations.proofs.Sharing.{crews_share_travel, crews_share_workloads}
use Rattle.fleet_measures.specs.declared.kinds.FleetMeasure.TheVariants as fleet
use Rattle.fleet_measures.specs.declared.kinds.FleetEnds.{FleetEnds}
use Rattle.fleet_measures.specs.FleetMeasures.{ContainsCrews, ContainsEachCrew, HasEnds, IsFleetFound}
use Rattle.fleet_measures.specs.Pooled.{crews_mass}

module _ (s : StationPlan) (f : IsFleet s) (items : List FleetEnds) (c : ContainsCrews s items) (xs : List ℕ) (z : ℕ)
    (solves : IsSolution (expanded s) xs z) (n : ℕ) (l : n < all_crews s) where
  abbrev x : ℕ → ℕ
  x = mass_in xs

  -- a measure of the station that has the ratio of the crew's own
  own : (of_station of_crew : Measure) (lo hi : ℕ) → IsInRange s.parts of_station → is_without s.parts of_station ≡ false
      → IsSameRatio (measure_of (expanded s) x z of_crew) (state_measure s (crews_mass s xs) z of_station)
      → HasEnds items (fleet.Of of_station) lo hi
      → ContainsRatio lo hi (scale_of of_station) (measure_of (expanded s) x z of_crew)
  own of_station of_crew lo hi r valued same h =
      let there = All-contains (λ e. IsFleetFound s x z e.measure e.found) items
      (record { measure = fleet.Of of_station; found = found.Ends lo hi }) (c xs z solves) h in
      let of_states = of_crews MeasuresAreOfStates measures_are_of_states _ s f.accepted xs z solves of_station r in
      ends_of_equal lo hi (scale_of of_station) (measure_of (expanded s) x z of_crew)
      (state_measure s (crews_mass s xs) z of_station) (positive_states _ s f.accepted xs z solves of_station r valued) same
      (ends_of_equal lo hi (scale_of of_station) (state_measure s (crews_mass s xs) z of_station)
      (crew_measure (expanded s) (station_of s) x z of_station)
      (positive_crews _ s f.accepted xs z solves of_station r valued)
      (sym (same_of_multiple (crew_measure (expanded s) (station_of s) x z of_station)
      (state_measure s (crews_mass s xs) z of_station) of_states)) there.1)

pub each_crew : (s : StationPlan) → IsFleet s → (items : List FleetEnds) → ContainsCrews s items → ContainsEachCrew s items
each_crew s f items c xs z solves n l = record {
  workload = λ lo hi h. own s f items c xs z solves n l (measure.Workload (station_of s n)) (measure.Workload n) lo hi
      inside refl (of_crews CrewsShareWorkloads crews_share_workloads _ s f.accepted xs z solves n crew) h;
  travel = λ lo hi h. own s f items c xs z solves n l (measure.TravelUnit (station_of s n)) (measure.TravelUnit n) lo hi
      inside refl (of_crews CrewsShareTravel crews_share_travel _ s f.accepted xs z solves n crew) h;
}
  where
    crew : n < units (expanded s)
    crew = omega (arith, l, units_are s f.accepted)

    inside : station_of s n < stations s
    inside = (stationed s f.accepted).inside n crew

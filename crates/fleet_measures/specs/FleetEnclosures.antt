-- The exact ends of the measures of a fleet of stations, from the weights of its states. All but the workloads are those of
-- the plan with one unit for each station, from the gathered weights.
use Rattle.std.specs.Prelude.{◌≡◌, ◌⊎◌, ℕ, ◌-◌, nat_lt, if◌then◌else◌, List, ◌++◌, length, map}
use Rattle.std.specs.List.{range_with_len}
use Rattle.fleet_measures.specs.declared.kinds.FleetMeasure.TheVariants as fleet
use Rattle.fleet_measures.specs.declared.kinds.FleetEnds.{FleetEnds}
use Rattle.fixed_interval.specs.Ends.{Ends, share_ends}
use Rattle.fixed_interval.specs.WeightList.{ends_at}
use Rattle.hyper_model.specs.declared.kinds.Enclosed.{Enclosed}
use Rattle.hyper_model.specs.declared.kinds.Measure.TheVariants as measure
use Rattle.hyper_model.specs.declared.parts.PlanParts.{PlanParts}
use Rattle.busy_words.specs.MeasureEnds.{found_ends}
use Rattle.busy_words.specs.Order.{WordOrder}
use Rattle.busy_words.specs.Parts.{weighed_ends}
use Rattle.busy_words.specs.WeightParts.{IsOrderOf}
use Rattle.workload_measures.specs.LoadEnds.{line_measures, workload_ends}
use Rattle.dispatch_fractions.specs.PartLists.{PartList, parts_from}
use Rattle.dispatch_fractions.specs.Fractions.{fractions_of, interdistrict_of}
use Rattle.travel_measures.specs.TravelEnds.{travel_times_of}
use Rattle.crew_stations.specs.Stations.{StationPlan, stations, crews_at, states, busy_in}
use Rattle.station_flows.specs.CertifiedStates.{AreCertifiedStateWeights, AreWidestStateWeights}
use Rattle.fleet_measures.specs.Pooled.{AreGathered, EncloseCrews, pooled}

-- how many crews of station k are busy at a place of the weights, and how many are free: while a call waits all are busy
abbrev pub busy_at_place : StationPlan → ℕ → ℕ → ℕ
busy_at_place s k place = if nat_lt place (states s) then busy_in s place k else crews_at s k

abbrev pub free_at_place : StationPlan → ℕ → ℕ → ℕ
free_at_place s k place = crews_at s k - busy_at_place s k place

-- the share of time that a crew of station k is busy, in millionths: of the station's crews, those that are busy
abbrev pub crew_workload_ends : StationPlan → List Ends → ℕ → Ends
crew_workload_ends s items k =
    share_ends 1000000 (weighed_ends (length items) (busy_at_place s k) (ends_at items))
    (weighed_ends (length items) (free_at_place s k) (ends_at items))

abbrev pub crew_workload_of : StationPlan → List Ends → ℕ → FleetEnds
crew_workload_of s items k =
    record { measure = fleet.Of (measure.Workload k); found = found_ends (crew_workload_ends s items k) }

-- the share of time in which no crew of station k is free, in millionths: so long the station's unit is busy
abbrev pub full_of : PlanParts → WordOrder → List Ends → ℕ → FleetEnds
full_of p order gathered k = record { measure = fleet.Full k; found = found_ends (workload_ends p order gathered k) }

abbrev pub of_station : Enclosed → FleetEnds
of_station e = record { measure = fleet.Of e.measure; found = e.found }

-- of dispatches and travel times
abbrev pub answers_from : PlanParts → PartList → List FleetEnds
answers_from p parts =
    map of_station ((fractions_of p parts ++ interdistrict_of p parts) ++ travel_times_of p parts)

-- all measures, in the order in which a report prints them
abbrev pub fleet_measures_of : StationPlan → WordOrder → List Ends → List Ends → List FleetEnds
fleet_measures_of s order items gathered =
    map of_station (line_measures s.parts.line (pooled s) gathered)
    ++ map (crew_workload_of s items) (range_with_len 0 (stations s))
    ++ map (full_of (pooled s) order gathered) (range_with_len 0 (stations s))
    ++ answers_from (pooled s) (parts_from (pooled s) order (ends_at gathered))

-- the list has the fleet's measures, with the ends that these weights of its states give
pub record AreFleetMeasures (s : StationPlan) (items : List Ends) (list : List FleetEnds) : Type 0 where
  pub order : WordOrder
  pub gathered : List Ends
  pub ordered : IsOrderOf (pooled s) order
  pub weights : AreGathered s order items gathered
  pub exact : list ≡ fleet_measures_of s order items gathered

-- and these weights enclose every solution of the plan with a unit for each crew: they have a certificate, or they are the
-- widest
pub record IsFleetEnclosure (s : StationPlan) (list : List FleetEnds) : Type 0 where
  pub items : List Ends
  pub encloses : EncloseCrews s items
  pub found : AreCertifiedStateWeights s items ⊎ AreWidestStateWeights s items
  pub measures : AreFleetMeasures s items list

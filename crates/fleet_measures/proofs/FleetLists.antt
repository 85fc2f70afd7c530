-- A fleet's list, put together.
use Rattle.std.proofs.Common.{◌≡◌, ◌⊎◌, ℕ, Bool, true, false, inl, inr, List, [], ◌++◌, map, refl, sym, subst, ◌∙◌}
use Rattle.std.specs.Prelude.{IsFalse, IsTrue}
use Rattle.std.specs.List.{range_with_len}
use Rattle.fixed_interval.specs.Ends.{Ends}
use Rattle.fixed_interval.specs.WeightList.{ends_at}
use Rattle.hyper_model.specs.declared.parts.PlanParts.{PlanParts}
use Rattle.hyper_model.specs.Plans.{units}
use Rattle.busy_words.specs.Order.{WordOrder, IsInOrder}
use Rattle.busy_words.specs.WeightParts.{IsOrderOf}
use Rattle.workload_measures.specs.LoadEnds.{line_measures}
use Rattle.dispatch_fractions.specs.PartLists.{PartList, parts_from}
use Rattle.crew_stations.specs.Fleets.{IsFleet}
use Rattle.crew_stations.specs.Stations.{StationPlan, stations}
use Rattle.station_flows.specs.CertifiedStates.{AreCertifiedStateWeights, AreWidestStateWeights, EncloseEverySolution}
use Rattle.fleet_measures.specs.declared.kinds.FleetEnds.{FleetEnds}
use Rattle.fleet_measures.specs.FleetEnclosures.{AreFleetMeasures, IsFleetEnclosure, answers_from, crew_workload_of, full_of, of_station}
use Rattle.fleet_measures.specs.FleetMeasures.{ContainsCrews}
use Rattle.fleet_measures.specs.Pooled.{AreGathered, pooled}
use Rattle.fleet_measures.proofs.Contain.{fleet_contained}
use Rattle.fleet_measures.proofs.CrewWeights.{crews_enclosed}
use Rattle.fleet_measures.proofs.Pooling.{units_are}

-- the order of as many units as there are stations
pub pooled_order : (s : StationPlan) (order : WordOrder) (count : ℕ) → count ≡ stations s → order.units ≡ count
    → IsInOrder count order.words → IsOrderOf (pooled s) order
pooled_order s order count same units_same ordered = record {
  same_units = units_same ∙ same ∙ sym (units_are s);
  ordered = subst (λ n. IsInOrder n order.words) (same ∙ sym (units_are s)) ordered;
}

-- the list that is put together from its four
pub measures_are : (s : StationPlan) (order : WordOrder) (items gathered : List Ends) (p : PlanParts) (parts : PartList)
    (none first second third list : List FleetEnds) → p ≡ pooled s → IsOrderOf (pooled s) order
    → AreGathered s order items gathered → parts ≡ parts_from p order (ends_at gathered) → none ≡ []
    → first ≡ none ++ map of_station (line_measures p.line p gathered)
    → second ≡ first ++ map (crew_workload_of s items) (range_with_len 0 (stations s))
    → third ≡ second ++ map (full_of p order gathered) (range_with_len 0 (units p))
    → list ≡ third ++ answers_from p parts → AreFleetMeasures s items list
measures_are s order items gathered p parts none first second third list is_plan o g is_parts is_none is_first is_second is_third
    is_list =
    record {
      order = order;
      gathered = gathered;
      ordered = o;
      weights = g;
      exact = rw (is_list, is_third, is_second, is_first, is_none, is_parts, is_plan, units_are s) refl;
    }

-- weights that have a certificate, or are the widest, and the list that they give
pub enclosure_is : (s : StationPlan) → IsFleet s → (items : List Ends) (certified : Bool)
    → (IsTrue certified → AreCertifiedStateWeights s items) → (IsFalse certified → AreWidestStateWeights s items)
    → EncloseEverySolution s items → (list : List FleetEnds) → AreFleetMeasures s items list → IsFleetEnclosure s list
enclosure_is s f items certified if_certified if_not encloses list measures = record {
  items = items;
  encloses = crews_enclosed s f items encloses;
  found = either certified if_certified if_not;
  measures = measures;
}
  where
    either : (b : Bool) → (IsTrue b → AreCertifiedStateWeights s items) → (IsFalse b → AreWidestStateWeights s items)
        → AreCertifiedStateWeights s items ⊎ AreWidestStateWeights s items
    either true certificate widest = inl (certificate refl)
    either false certificate widest = inr (widest refl)

pub enclosure_contains : (s : StationPlan) → IsFleet s → (list : List FleetEnds) → IsFleetEnclosure s list
    → ContainsCrews s list
enclosure_contains s f list is = fleet_contained s f is.items list is.measures is.encloses

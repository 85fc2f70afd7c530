-- The measures of a plan with their ends, in the order in which a report prints them.
use Rattle.std.specs.Prelude.{◌≡◌, List, ◌++◌}
use Rattle.std.specs.List.{AllZip}
use Rattle.fixed_interval.specs.Ends.{Ends}
use Rattle.fixed_interval.specs.WeightList.{ends_at}
use Rattle.hyper_model.specs.Enclosures.{EnclosureList}
use Rattle.hyper_model.specs.declared.kinds.Enclosed.{Enclosed}
use Rattle.hyper_model.specs.declared.parts.PlanParts.{PlanParts}
use Rattle.busy_words.specs.Order.{WordOrder}
use Rattle.workload_measures.specs.LoadEnds.{loads_of}
use Rattle.dispatch_fractions.specs.PartLists.{PartList, parts_from}
use Rattle.dispatch_fractions.specs.Fractions.{fractions_of, interdistrict_of}
use Rattle.travel_measures.specs.TravelEnds.{travel_times_of}
use Rattle.plan_solver.specs.PlanWeights.{ArePlanWeights}
pub use Rattle.hyper_model.specs.Measures.{ContainsSolutions}

-- of dispatches and of travel times, from the parts
abbrev pub dispatches_of : PlanParts → PartList → List Enclosed
dispatches_of p parts = fractions_of p parts ++ interdistrict_of p parts ++ travel_times_of p parts

-- all measures, from the weights
abbrev pub measures_of : PlanParts → WordOrder → List Ends → List Enclosed
measures_of p order items = loads_of p order items ++ dispatches_of p (parts_from p order (ends_at items))

-- the list has the plan's measures, with the ends that its weights give
pub record IsEnclosureOf (p : PlanParts) (found : List Enclosed) : Type 0 where
  pub order : WordOrder
  pub items : List Ends
  pub weights : ArePlanWeights p order items
  pub exact : found ≡ measures_of p order items

-- and no other list has them
abbrev pub IsOnlyEnclosure : PlanParts → List Enclosed → Type 0
IsOnlyEnclosure p found = (others : List Enclosed) → IsEnclosureOf p others → others ≡ found

-- for each plan, in order, the one list of its measures with the ends of the method
abbrev pub AreEnclosuresOf : List PlanParts → List EnclosureList → Type 0
AreEnclosuresOf plans found = AllZip (λ p list. IsEnclosureOf p list.items) plans found

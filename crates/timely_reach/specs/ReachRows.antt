-- All shares of a plan with their ends for each limit, in the order in which they are printed.
use Rattle.std.specs.Prelude.{◌≡◌, ℕ, if◌then◌else◌, List, [], ◌∷◌, ◌++◌, map}
use Rattle.std.specs.List.{range_with_len}
use Rattle.fixed_interval.specs.Ends.{Ends}
use Rattle.fixed_interval.specs.WeightList.{ends_at}
use Rattle.hyper_model.specs.declared.parts.PlanParts.{PlanParts}
use Rattle.hyper_model.specs.declared.values.Value.{Value}
use Rattle.hyper_model.specs.Plans.{units, atoms}
use Rattle.busy_words.specs.Order.{WordOrder}
use Rattle.dispatch_fractions.specs.PartLists.{AreSizedFor, PartList, parts_from}
use Rattle.plan_solver.specs.PlanWeights.{ArePlanWeights}
use Rattle.timely_reach.specs.declared.kinds.ReachMeasure.{ReachMeasure}
use Rattle.timely_reach.specs.declared.kinds.ReachMeasure.TheVariants as measure
use Rattle.timely_reach.specs.declared.kinds.ReachRow.{ReachRow}
use Rattle.timely_reach.specs.Reach.{has_no_calls}
use Rattle.timely_reach.specs.ReachEnds.{share_ends_of}
use Rattle.timely_reach.specs.TimelyPlans.{timely_plan}

abbrev pub value_between : Ends → Value
value_between a = record { lo = a.lo; hi = a.hi }

-- the ends of a share in the timely plan of each limit
abbrev pub share_in : PartList → ReachMeasure → PlanParts → Value
share_in parts m q = value_between (share_ends_of q parts m)

abbrev pub timely_plans : PlanParts → List ℕ → List PlanParts
timely_plans p limits = map (timely_plan p) limits

-- a district that no call comes from has no share
abbrev pub row_of : PlanParts → List PlanParts → PartList → ReachMeasure → ReachRow
row_of p timely parts m = record {
  measure = m;
  ends = (if has_no_calls p m then [] else map (share_in parts m) timely);
}

abbrev pub rows_from : PlanParts → List PlanParts → PartList → List ReachRow
rows_from p timely parts =
    row_of p timely parts measure.Region
    ∷ row_of p timely parts measure.All
    ∷ row_of p timely parts measure.AtOnce
    ∷ (map (λ j. row_of p timely parts (measure.Atom j)) (range_with_len 0 (atoms p))
    ++ map (λ n. row_of p timely parts (measure.Unit n)) (range_with_len 0 (units p))
    ++ map (λ n. row_of p timely parts (measure.District n)) (range_with_len 0 (units p)))

-- the rows have the shares of the plan for these limits, with the ends that its weights give
pub record IsReachOf (p : PlanParts) (limits : List ℕ) (rows : List ReachRow) : Type 0 where
  pub order : WordOrder
  pub items : List Ends
  pub weights : ArePlanWeights p order items
  pub exact : rows ≡ rows_from p (timely_plans p limits) (parts_from p order (ends_at items))

-- the parts are those of a plan's units and atoms, and these are its timely plans for some limits
pub record AreReady (p : PlanParts) (parts : PartList) (timely : List PlanParts) : Type 0 where
  pub sized : AreSizedFor p parts
  pub limits : List ℕ
  pub timed : timely ≡ timely_plans p limits

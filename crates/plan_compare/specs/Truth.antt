-- What values and verdicts say of the plans of a study.
use Rattle.std.specs.Prelude.{◌≡◌, ℕ, List, Some, map, slice_get}
use Rattle.hyper_model.specs.Enclosures.{EnclosureList}
use Rattle.hyper_model.specs.Measures.{ContainsSolutions}
use Rattle.hyper_model.specs.Plans.{IsAccepted}
use Rattle.hyper_model.specs.Separation.{IsBelow}
use Rattle.hyper_model.specs.declared.kinds.Enclosed.{Enclosed}
use Rattle.hyper_model.specs.declared.kinds.Found.TheVariants as found
use Rattle.hyper_model.specs.declared.kinds.Measure.{Measure}
use Rattle.hyper_model.specs.declared.parts.PlanParts.{PlanParts}
use Rattle.plan_solver.specs.SoundEnclosures.{IsSoundEnclosure}
use Rattle.plan_compare.specs.Studies.{StudyParts}
use Rattle.plan_compare.specs.Values.{list_at, value_at}
use Rattle.plan_compare.specs.Verdicts.{PlanPair, all_pairs}
use Rattle.plan_compare.specs.declared.verdict_list.Verdict.{Verdict}
use Rattle.plan_compare.specs.declared.verdict_list.Verdict.TheVariants as verdict

-- the values of the measures in the plan at a place
abbrev pub item_at : List EnclosureList → ℕ → Measure → Enclosed
item_at lists place m =
    record { measure = m; found = found.Ends (value_at lists m place).lo (value_at lists m place).hi }

abbrev pub items_at : StudyParts → List EnclosureList → ℕ → List Enclosed
items_at study lists place = map (item_at lists place) study.measures

-- of each accepted plan that the list at a place encloses soundly, the values there contain the measures of all solutions
abbrev pub ContainsPlans : StudyParts → List EnclosureList → Type 0
ContainsPlans study lists =
    (place : ℕ) (p : PlanParts) → IsAccepted p → IsSoundEnclosure p (list_at lists place)
    → ContainsSolutions p (items_at study lists place)

abbrev pub IsTrueOf : Measure → PlanParts → PlanParts → Verdict → Type 0
IsTrueOf m p q verdict.Below = IsBelow m p q
IsTrueOf m p q verdict.Above = IsBelow m q p
IsTrueOf m p q verdict.NotSeparated = Prim.Unit {0}

-- each verdict is true of any two accepted plans that the lists at its places enclose soundly, each by any method
abbrev pub AreTrue : StudyParts → List EnclosureList → List Verdict → Type 0
AreTrue study lists verdicts =
    (k : ℕ) (c : PlanPair) (v : Verdict) → slice_get (all_pairs study) k ≡ Some c → slice_get verdicts k ≡ Some v
    → (p q : PlanParts) → IsAccepted p → IsAccepted q
    → IsSoundEnclosure p (list_at lists c.first) → IsSoundEnclosure q (list_at lists c.second)
    → IsTrueOf c.measure p q v

-- What several workers found of the plans that each of them took.
use Rattle.std.specs.Prelude.{◌≡◌, List, Option, Some, All, IfSome, slice_get}
use Rattle.std.specs.List.{AllZip}
use Rattle.hyper_model.specs.Enclosures.{EnclosureList}
use Rattle.hyper_model.specs.declared.kinds.Method.{Method}
use Rattle.hyper_model.specs.declared.parts.PlanParts.{PlanParts}
use Rattle.plan_solver.specs.SoundEnclosures.{IsEnclosureBy}
use Rattle.plan_compare.specs.declared.slots.Solved.{Solved}

-- the measures are those of the plan at this place
pub record IsSolvedOf (m : Method) (plans : List PlanParts) (solved : Solved) : Type 0 where
  pub plan : PlanParts
  pub there : slice_get plans solved.place ≡ Some plan
  pub encloses : IsEnclosureBy m plan solved.found.items

abbrev pub AreSolvedOf : Method → List PlanParts → List Solved → Type 0
AreSolvedOf m plans list = All (IsSolvedOf m plans) list

-- what stands in a plan's slot, if something does, are the plan's measures
abbrev pub IsSlotOf : Method → PlanParts → Option EnclosureList → Type 0
IsSlotOf m plan slot = IfSome slot (λ list. IsEnclosureBy m plan list.items)

abbrev pub AreSlotsOf : Method → List PlanParts → List (Option EnclosureList) → Type 0
AreSlotsOf m plans slots = AllZip (IsSlotOf m) plans slots

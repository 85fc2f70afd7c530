-- What stands in the slots of plans: nothing at first, and then what workers found of them.
use Rattle.std.proofs.Common.{◌≡◌, ℕ, zero, suc, ◌<◌, List, [], ◌∷◌, Option, Some, None, length, get_or, replicate, refl, sym, subst, ◌∙◌}
use Rattle.std.specs.Prelude.{slice_get, slice_set}
use Rattle.std.proofs.lemmas.Option.{same_Some}
use Rattle.hyper_model.specs.Enclosures.{EnclosureList}
use Rattle.hyper_model.specs.declared.kinds.Method.{Method}
use Rattle.hyper_model.specs.declared.parts.PlanParts.{PlanParts}
use Rattle.plan_solver.specs.SoundEnclosures.{IsEnclosureBy}
use Rattle.plan_solver.proofs.SolvedPlans.{AllZip-at}
use Rattle.plan_compare.specs.Solving.{AreSlotsOf, IsSlotOf, IsSolvedOf}
use Rattle.plan_compare.specs.declared.slots.Solved.{Solved}

pub none_filled : (m : Method) (plans : List PlanParts) → AreSlotsOf m plans (replicate (length plans) None)
none_filled m [] = tt
none_filled m (p ∷ ps) = (tt, none_filled m ps)

-- one slot changed to what its plan's slot may have
pub one_changed : (m : Method) (plans : List PlanParts) (slots : List (Option EnclosureList)) (k : ℕ) (slot : Option EnclosureList)
    → ((p : PlanParts) → slice_get plans k ≡ Some p → IsSlotOf m p slot) → AreSlotsOf m plans slots
    → AreSlotsOf m plans (slice_set slots k slot)
one_changed m [] [] k slot is are = tt
one_changed m [] (s ∷ ss) k slot is are = absurd are
one_changed m (q ∷ ps) [] k slot is are = absurd are
one_changed m (q ∷ ps) (s ∷ ss) zero slot is are = (is q refl, are.1)
one_changed m (q ∷ ps) (s ∷ ss) (suc k) slot is are = (are.0, one_changed m ps ss k slot is are.1)

pub one_filled : (m : Method) (plans : List PlanParts) (slots : List (Option EnclosureList)) (solved : Solved) → IsSolvedOf m plans solved
    → AreSlotsOf m plans slots → AreSlotsOf m plans (slice_set slots solved.place (Some solved.found))
one_filled m plans slots solved is are =
    one_changed m plans slots solved.place (Some solved.found)
    (λ p at. subst (λ x. IsEnclosureBy m x solved.found.items) (same_Some is.plan p (sym is.there ∙ at)) is.encloses) are

pub one_emptied : (m : Method) (plans : List PlanParts) (slots : List (Option EnclosureList)) (k : ℕ) → AreSlotsOf m plans slots
    → AreSlotsOf m plans (slice_set slots k None)
one_emptied m plans slots k are = one_changed m plans slots k None (λ p at. tt) are

-- what stands in the slot of one plan
pub slot_at : (m : Method) (plans : List PlanParts) (slots : List (Option EnclosureList)) (k : ℕ) (p : PlanParts)
    (slot taken : Option EnclosureList) → AreSlotsOf m plans slots → k < length plans → p ≡ get_or plans k p → slot ≡ get_or slots k slot
    → taken ≡ slot → IsSlotOf m p taken
slot_at m plans slots k p slot taken are inside here there is =
    subst (λ x. IsSlotOf m x taken) (sym here)
    (subst (λ s. IsSlotOf m (get_or plans k p) s) (sym (is ∙ there)) (AllZip-at (IsSlotOf m) plans slots are k p slot inside))

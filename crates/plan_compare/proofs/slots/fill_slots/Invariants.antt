use Rattle.std.proofs.Common.{List}
use Rattle.hyper_model.specs.declared.kinds.Method.{Method}
use Rattle.hyper_model.specs.declared.parts.PlanParts.{PlanParts}
use Rattle.plan_compare.specs.Solving.{AreSlotsOf, AreSolvedOf}
use Rattle.plan_compare.proofs.slots.fill_slots.Given as goal

abbrev pub invariant-loop-solved : goal.invariant-loop-solved
invariant-loop-solved l =
    (goal.iterator-loop-solved).can_next l.solved-iterator
    × (goal.iterator-loop-solved).is_finite l.solved-iterator
    × ((m : Method) (plans : List PlanParts) → AreSolvedOf m plans l.fn.list.items → AreSlotsOf m plans l.fn.slots
    → AreSolvedOf m plans l.solved-iterator.rest.items × AreSlotsOf m plans l.slots)

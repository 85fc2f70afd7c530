use Rattle.std.proofs.Common.{All, IfOk}
use Rattle.hyper_model.specs.declared.kinds.Method.{Method}
use Rattle.plan_compare.specs.Solving.{AreSlotsOf, AreSolvedOf}
use Rattle.plan_compare.proofs.slots.slots_of.Given as goal

abbrev pub invariant-loop-list : goal.invariant-loop-list
invariant-loop-list l =
    (goal.iterator-loop-list).can_next l.list-iterator
    × (goal.iterator-loop-list).is_finite l.list-iterator
    × ((m : Method) → All (λ list. IfOk list (λ solved. AreSolvedOf m l.plans solved.items)) l.fn.lists.items
    → All (λ list. IfOk list (λ solved. AreSolvedOf m l.plans solved.items)) l.list-iterator.rest.items
    × AreSlotsOf m l.plans l.slots.items)

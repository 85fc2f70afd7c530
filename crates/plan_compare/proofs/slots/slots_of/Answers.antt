use Rattle.std.proofs.Common.{All, IfOk, subst, sym, arith}
use Rattle.std.proofs.lemmas.List.{with_items_is}
use Rattle.std.proofs.lemmas.List.Elements.{All-head, All-tail}
use Rattle.plan_compare.specs.Solving.{AreSlotsOf, AreSolvedOf}
use Rattle.plan_compare.proofs.SlotLists.{none_filled}
use Rattle.plan_compare.proofs.slots.slots_of.Goals as goal

pub loop-list-init : goal.loop-list-init
loop-list-init c =
    let plans = c.args.plans.now in (
      tt,
      tt,
      λ m all. (
        subst (All (λ list. IfOk list (λ solved. AreSolvedOf m plans solved.items))) (sym c.into_iter-list-iterator.ensures.into_iter_gives.0) all,
        subst (AreSlotsOf m plans) (sym c.in_ok-slots.ensures) (none_filled m plans),
      ),
    )

pub loop-list-preserved : goal.loop-list-preserved
loop-list-preserved c =
    let plans = c.args.plans.now in (
      tt,
      tt,
      λ m all.
          let here = c.loop-list.invariant.2 m all in
          let rest = subst (All (λ list. IfOk list (λ solved. AreSolvedOf m plans solved.items))) c.in-Some.ensures.steps.0 here.0 in
          let first = subst (λ list. IfOk list (λ solved. AreSolvedOf m plans solved.items)) c.in_ok-list.was (All-head (λ list. IfOk list (λ solved. AreSolvedOf m plans solved.items)) _ _ rest) in (
            All-tail (λ list. IfOk list (λ solved. AreSolvedOf m plans solved.items)) _ _ rest,
            subst (AreSlotsOf m plans)
                (sym (with_items_is c.loop-list.slots c.fill_slots.new.slots (omega (arith, c.fill_slots.auto.slots, c.deref_mut.ensures.len))))
                (c.fill_slots.ensures m plans first (subst (AreSlotsOf m plans) (sym c.deref_mut.ensures.value) here.1)),
          ),
    )

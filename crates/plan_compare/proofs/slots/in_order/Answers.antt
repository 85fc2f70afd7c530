use Rattle.std.proofs.Common.{arith, subst, sym}
use Rattle.std.specs.Prelude.{slice_set}
use Rattle.std.proofs.lemmas.Slice.Zip.{AllZip-long}
use Rattle.plan_solver.specs.SoundEnclosures.{IsEnclosureBy}
use Rattle.plan_solver.proofs.SolvedPlans.{zip_more}
use Rattle.plan_compare.specs.Solving.{AreSlotsOf, IsSlotOf}
use Rattle.plan_compare.proofs.SlotLists.{one_emptied, slot_at}
use Rattle.plan_compare.proofs.slots.in_order.Goals as goal

pub index_mut-requires : goal.index_mut-requires
index_mut-requires g c =
    let same = AllZip-long (IsSlotOf c.args.method) c.args.plans.now c.loop-place.slots.items c.loop-place.invariant.slots in
    omega (arith, same, c.loop-place-test.true)

pub found_in-requires-after_bounds : goal.found_in-requires-after_bounds
found_in-requires-after_bounds g c κs within =
    slot_at c.args.method c.args.plans.now c.loop-place.slots.items c.loop-place.place c.index-plans-place.result c.index_mut.result.now
    c.take-slot.result c.loop-place.invariant.slots c.loop-place-test.true c.index-plans-place.is c.index_mut.ensures.value
    c.take-slot.ensures.value

pub loop-place-preserved : goal.loop-place-preserved
loop-place-preserved g c = record {
  slots = subst (λ slot. AreSlotsOf c.args.method c.args.plans.now (slice_set c.loop-place.slots.items c.loop-place.place slot)) (sym c.take-slot.ensures.after)
      (one_emptied c.args.method c.args.plans.now c.loop-place.slots.items c.loop-place.place c.loop-place.invariant.slots);
  all = zip_more (λ p list. IsEnclosureBy c.args.method p list.items) c.args.plans.now c.loop-place.place c.index-plans-place.result
      c.loop-place.all.items c.in_ok-found_in.field-0 c.push.new.self.items c.loop-place-test.true c.index-plans-place.is
      c.loop-place.invariant.all c.in_ok-found_in.ensures c.in_ok-push.ensures.items;
}

use Rattle.std.proofs.Common.{◌∷◌, [], List, length, ap, arith, length-append}
use Rattle.hyper_model.specs.declared.parts.PlanParts.{PlanParts}
use Rattle.timely_reach.specs.TimelyPlans.{timely_plan}
use Rattle.timely_reach.proofs.ReachRows.{mapped_next}
use Rattle.timely_reach.proofs.timely.timely_plans.Goals as goal

pub loop-place-preserved : goal.loop-place-preserved
loop-place-preserved c = record {
  timely = mapped_next (timely_plan c.args.plan.now) c.args.limits.now c.loop-place.place c.get.result.now c.loop-place.timely
      c.push.new.self c.in_ok-timely_plan.field-0 c.get.ensures c.loop-place.invariant.timely c.in_ok-timely_plan.ensures
      c.push.ensures;
  count = omega (
    arith,
    ap (λ (l : List PlanParts). length l) c.push.ensures,
    length-append c.loop-place.timely (c.in_ok-timely_plan.field-0 ∷ []),
    c.loop-place.invariant.count,
  );
}

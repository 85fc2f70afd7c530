use Rattle.std.proofs.Common.{subst}
use Rattle.std.proofs.lemmas.List.Elements.{All-head, All-tail}
use Rattle.plan_compare.specs.Solving.{AreSolvedOf, IsSolvedOf}
use Rattle.plan_compare.proofs.slots.fill_slots.Goals as goal

pub loop-solved-preserved : goal.loop-solved-preserved
loop-solved-preserved c = (
  tt,
  tt,
  λ m plans all before.
      let here = c.loop-solved.invariant.2 m plans all before in
      let rest = subst (AreSolvedOf m plans) c.in-Some.ensures.steps.0 here.0 in
      (All-tail (IsSolvedOf m plans) _ _ rest, c.fill_slot.ensures m plans (All-head (IsSolvedOf m plans) _ _ rest) here.1),
)

use Rattle.std.proofs.Common.{◌∙◌, subst, sym}
use Rattle.hyper_model.specs.Plans.{IsAccepted}
use Rattle.timely_reach.proofs.TimelyPlans.{timely_accepted, timely_is}
use Rattle.timely_reach.proofs.timely.timely_plan.Goals as goal

pub of_accepted-plan-requires : goal.of_accepted-plan-requires
of_accepted-plan-requires c =
    subst IsAccepted
    (sym (timely_is c.args.plan.now c.args.limit c.parts-parts.result.now c.in_ok-travel.travel c.in_ok-timely.timely
    c.parts-parts.ensures.parts c.in_ok-travel.ensures c.in_ok-timely.ensures))
    (timely_accepted c.args.plan.now c.args.limit c.parts-parts.ensures.accepted)

pub returns : goal.returns
returns c =
    c.of_accepted-plan.ensures
    ∙ timely_is c.args.plan.now c.args.limit c.parts-parts.result.now c.in_ok-travel.travel c.in_ok-timely.timely
    c.parts-parts.ensures.parts c.in_ok-travel.ensures c.in_ok-timely.ensures

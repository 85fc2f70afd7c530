use Rattle.plan_solver.proofs.enclosing.enclose.Goals as goal

pub enclosures-requires : goal.enclosures-requires
enclosures-requires c = c.weigh-weighed.ensures.weights c.args.plan.now c.in_ok-reserved.ensures

use Rattle.plan_solver.proofs.enclosing.enclose_with.Goals as goal

pub enclosures-requires : goal.enclosures-requires
enclosures-requires g c = c.weigh_with-weighed.ensures.weights c.args.plan.now c.in_ok-reserved.ensures

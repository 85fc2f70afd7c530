use Rattle.timely_reach.proofs.reaching.reach_with.Goals as goal

pub reached-requires : goal.reached-requires
reached-requires g c = c.weigh_with-weighed.ensures.weights c.args.plan.now c.in_ok-reserved.ensures

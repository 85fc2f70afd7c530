use Rattle.timely_reach.proofs.reaching.reach.Goals as goal

pub reached-requires : goal.reached-requires
reached-requires c = c.weigh-weighed.ensures.weights c.args.plan.now c.in_ok-reserved.ensures

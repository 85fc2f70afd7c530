use Rattle.plan_solver.proofs.PlanChains.{one_each}
use Rattle.solve_times.proofs.parts.weigh.Goals as goal

pub measure-requires-clause-order : goal.measure-requires-clause-order
measure-requires-clause-order g c =
    (c.weigh_with-weighed.ensures.weights c.args.plan.now c.in_ok-reserved.ensures).ordered

pub measure-requires-clause-one_each : goal.measure-requires-clause-one_each
measure-requires-clause-one_each g c =
    let are = c.weigh_with-weighed.ensures.weights c.args.plan.now c.in_ok-reserved.ensures in
    one_each c.args.plan.now c.in_ok-reserved.ensures.accepted c.weigh_with-weighed.result.order are.ordered
    c.weigh_with-weighed.result.weights.items are.weights

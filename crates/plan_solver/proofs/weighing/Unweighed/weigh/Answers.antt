use Rattle.plan_solver.proofs.PlanChains.{weigh_plan}
use Rattle.plan_solver.proofs.weighing.Unweighed.weigh.Goals as goal

pub returns : goal.returns
returns c p m reduced is = weigh_plan p _ is c.args.matrix.now reduced c.fill.new.weights.items c.fill.ensures

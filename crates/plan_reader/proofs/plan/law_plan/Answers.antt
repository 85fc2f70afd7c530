use Rattle.plan_reader.proofs.AcceptedPlan.{plan_of-accepted}
use Rattle.plan_reader.proofs.plan.law_plan.Goals as goal

pub returns : goal.returns
returns c = plan_of-accepted

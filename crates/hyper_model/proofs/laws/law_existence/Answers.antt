use Rattle.hyper_model.proofs.PlanLaws.{has_solution}
use Rattle.hyper_model.proofs.laws.law_existence.Goals as goal

pub returns : goal.returns
returns c = has_solution c.args.plan.now c.law_accepted.ensures

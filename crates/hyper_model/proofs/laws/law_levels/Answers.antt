use Rattle.hyper_model.proofs.Levels.{has_levels}
use Rattle.hyper_model.proofs.laws.law_levels.Goals as goal

pub returns : goal.returns
returns c = has_levels c.args.plan.now c.law_accepted.ensures

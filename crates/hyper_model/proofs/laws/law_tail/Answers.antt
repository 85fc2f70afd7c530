use Rattle.hyper_model.proofs.WaitingPlaces.{has_tail}
use Rattle.hyper_model.proofs.laws.law_tail.Goals as goal

pub returns : goal.returns
returns c = has_tail c.args.plan.now

use Rattle.std.proofs.Common.{arith}
use Rattle.hyper_model.proofs.PlanSums.{service_positive}
use Rattle.hyper_model.proofs.plans.Plan.service.Goals as goal

pub returns-clause-least : goal.returns-clause-least
returns-clause-least c = omega (arith, service_positive c.self.inside.parts c.self.invariant.accepted.units, c.self.invariant.same_service)

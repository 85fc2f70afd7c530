use Rattle.plan_solver.proofs.PlanChains.{encloses}
use Rattle.plan_solver.proofs.laws.law_weights.Goals as goal

pub returns : goal.returns
returns c p a order items w xs z s = encloses p a order w.ordered xs z s items w.weights

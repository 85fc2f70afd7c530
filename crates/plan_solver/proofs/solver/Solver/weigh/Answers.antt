use Rattle.std.proofs.Common.{subst, sym}
use Rattle.hyper_model.specs.declared.parts.PlanParts.{PlanParts}
use Rattle.plan_solver.specs.PlanWeights.{WeighPlan}
use Rattle.plan_solver.specs.Solvers.{IsSolverOf}
use Rattle.plan_solver.proofs.solver.Solver.weigh.Goals as goal

pub returns : goal.returns
returns c =
    let weigh : (p : PlanParts) → IsSolverOf p c.args.self → WeighPlan p c.weigh.result.order c.weigh.result.weights.items =
    λ p is. c.weigh.ensures p c.self.inside.matrix c.reduce_packed.ensures.reduced (subst (IsSolverOf p) (sym c.self.view_is) is) in
    record { weights = λ p is. (weigh p is).weights; encloses = λ p is. (weigh p is).encloses }

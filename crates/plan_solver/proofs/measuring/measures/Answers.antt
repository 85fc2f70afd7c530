use Rattle.std.proofs.Common.{◌∙◌, length, ap, arith}
use Rattle.plan_solver.proofs.AllMeasures.{workloads_fit}
use Rattle.plan_solver.proofs.measuring.measures.Goals as goal

pub push_all-requires-clause-room : goal.push_all-requires-clause-room
push_all-requires-clause-room c =
    omega (
      arith,
      c.push_line.ensures.room,
      c.in_ok-found.ensures.spare,
      ap (λ (es : _). length es) (c.deref.ensures.value ∙ c.in_ok-workloads.ensures.exact),
      workloads_fit c.args.plan.now c.law_accepted.ensures c.args.weighed.now.order c.args.weighed.now.weights.items,
    )

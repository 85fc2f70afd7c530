use Rattle.std.proofs.Common.{rules}
use Rattle.workload_measures.specs.LoadEnds.{workload_of}
use Rattle.workload_measures.proofs.units.workloads.Goals as goal

pub returns-clause-exact : goal.returns-clause-exact
returns-clause-exact c =
    let is = c.in_ok-push_each.ensures.exact (workload_of c.args.plan.now c.args.order.now c.args.weights.now.items)
    (λ i e l h. search rules) in
    rw (c.new-found.ensures.items, c.units.ensures.units) at is

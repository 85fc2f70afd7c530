use Rattle.std.proofs.lemmas.Result.{IfOk-weaker}
use Rattle.plan_solver.proofs.PlanChains.{one_each}
use Rattle.plan_solver.proofs.AllMeasures.{enclosure_contains, enclosure_in_range, enclosure_is, one_enclosure}
use Rattle.plan_solver.proofs.enclosing.enclosures.Goals as goal

pub measures-requires-clause-order : goal.measures-requires-clause-order
measures-requires-clause-order c = c.requires.ordered

pub measures-requires-clause-one_each : goal.measures-requires-clause-one_each
measures-requires-clause-one_each c =
    one_each c.args.plan.now c.law_accepted.ensures c.args.weighed.now.order c.requires.ordered
    c.args.weighed.now.weights.items c.requires.weights

pub returns-clause-exact : goal.returns-clause-exact
returns-clause-exact c =
    IfOk-weaker c.measures.result _ _
    (λ found is. enclosure_is c.args.plan.now c.args.weighed.now.order c.args.weighed.now.weights.items c.requires found.items is)
    c.measures.ensures

pub returns-clause-alone : goal.returns-clause-alone
returns-clause-alone c =
    IfOk-weaker c.measures.result _ _ (λ found is others. one_enclosure c.args.plan.now found.items others is)
    (returns-clause-exact c)

pub returns-clause-contains : goal.returns-clause-contains
returns-clause-contains c =
    IfOk-weaker c.measures.result _ _
    (λ found. enclosure_contains c.args.plan.now c.law_accepted.ensures found.items) (returns-clause-exact c)

pub returns-clause-in_range : goal.returns-clause-in_range
returns-clause-in_range c =
    IfOk-weaker c.measures.result _ _ (λ found. enclosure_in_range c.args.plan.now found.items) (returns-clause-exact c)

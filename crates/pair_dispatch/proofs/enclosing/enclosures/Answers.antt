use Rattle.std.proofs.lemmas.Result.{IfOk-weaker}
use Rattle.pair_dispatch.proofs.Contained.{enclosure_contains, enclosure_is, one_each_weight, one_enclosure}
use Rattle.pair_dispatch.proofs.enclosing.enclosures.Goals as goal

pub measures-requires-clause-order : goal.measures-requires-clause-order
measures-requires-clause-order c = c.requires.weights.ordered

pub measures-requires-clause-one_each : goal.measures-requires-clause-one_each
measures-requires-clause-one_each c =
    one_each_weight c.args.plan.now c.args.percent c.law_accepted.ensures c.requires.percent c.args.order.now
    c.args.weights.now.items c.requires.weights

pub returns-clause-exact : goal.returns-clause-exact
returns-clause-exact c =
    IfOk-weaker c.measures.result _ _
    (λ found is. enclosure_is c.args.plan.now c.args.percent c.args.order.now c.args.weights.now.items c.requires.weights
    found.items is)
    c.measures.ensures

pub returns-clause-alone : goal.returns-clause-alone
returns-clause-alone c =
    IfOk-weaker c.measures.result _ _ (λ found is others. one_enclosure c.args.plan.now c.args.percent found.items others is)
    (returns-clause-exact c)

pub returns-clause-contains : goal.returns-clause-contains
returns-clause-contains c =
    IfOk-weaker c.measures.result _ _
    (λ found. enclosure_contains c.args.plan.now c.args.percent c.law_accepted.ensures c.requires.percent found.items)
    (returns-clause-exact c)

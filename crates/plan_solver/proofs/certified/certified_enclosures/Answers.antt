use Rattle.std.proofs.lemmas.Result.{IfOk-weaker}
use Rattle.plan_solver.proofs.SoundMeasures.{certified_each, certified_is, certified_sound, sound_contains, sound_in_range}
use Rattle.plan_solver.proofs.certified.certified_enclosures.Goals as goal

pub measures-requires-clause-order : goal.measures-requires-clause-order
measures-requires-clause-order c = c.requires.ordered

pub measures-requires-clause-one_each : goal.measures-requires-clause-one_each
measures-requires-clause-one_each c =
    certified_each c.args.plan.now c.law_accepted.ensures c.args.weighed.now.order c.args.weighed.now.weights.items c.requires

pub returns-clause-exact : goal.returns-clause-exact
returns-clause-exact c =
    IfOk-weaker c.measures.result _ _
    (λ found is. certified_is c.args.plan.now c.args.weighed.now.order c.args.weighed.now.weights.items c.requires found.items is)
    c.measures.ensures

pub returns-clause-contains : goal.returns-clause-contains
returns-clause-contains c =
    IfOk-weaker c.measures.result _ _
    (λ found is.
    sound_contains c.args.plan.now c.law_accepted.ensures found.items
    (certified_sound c.args.plan.now c.law_accepted.ensures found.items is))
    (returns-clause-exact c)

pub returns-clause-in_range : goal.returns-clause-in_range
returns-clause-in_range c =
    IfOk-weaker c.measures.result _ _
    (λ found is.
    sound_in_range c.args.plan.now found.items
    (certified_sound c.args.plan.now c.law_accepted.ensures found.items is))
    (returns-clause-exact c)

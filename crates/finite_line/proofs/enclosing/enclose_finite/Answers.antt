use Rattle.std.proofs.lemmas.Result.{IfOk-weaker}
use Rattle.finite_line.proofs.Enclosures.{finite_contains, finite_enclosure_is, finite_in_range, one_finite_enclosure}
use Rattle.finite_line.proofs.Existence.{has_finite_solution}
use Rattle.finite_line.proofs.PlanQueues.{one_each_state}
use Rattle.finite_line.proofs.enclosing.enclose_finite.Goals as goal

pub measures-requires-clause-order : goal.measures-requires-clause-order
measures-requires-clause-order c = c.in_ok-weighed.ensures.solved.ordered

pub measures-requires-clause-one_each : goal.measures-requires-clause-one_each
measures-requires-clause-one_each c =
    one_each_state c.args.plan.now c.law_accepted.ensures c.requires.possible c.args.places c.in_ok-weighed.weighed.order
    c.in_ok-weighed.weighed.weights.items c.in_ok-weighed.ensures

pub returns-in_err-weighed-clause-solvable : goal.returns-in_err-weighed-clause-solvable
returns-in_err-weighed-clause-solvable c =
    has_finite_solution c.args.plan.now c.law_accepted.ensures c.args.places c.requires.least

pub returns-clause-solvable : goal.returns-clause-solvable
returns-clause-solvable c = has_finite_solution c.args.plan.now c.law_accepted.ensures c.args.places c.requires.least

pub returns-clause-exact : goal.returns-clause-exact
returns-clause-exact c =
    IfOk-weaker c.measures.result _ _
    (λ found is. finite_enclosure_is c.args.plan.now c.args.places c.in_ok-weighed.weighed.order
    c.in_ok-weighed.weighed.weights.items c.in_ok-weighed.ensures found is)
    c.measures.ensures

pub returns-clause-alone : goal.returns-clause-alone
returns-clause-alone c =
    IfOk-weaker c.measures.result _ _
    (λ found is others. one_finite_enclosure c.args.plan.now c.args.places found others is) (returns-clause-exact c)

pub returns-clause-contains : goal.returns-clause-contains
returns-clause-contains c =
    IfOk-weaker c.measures.result _ _
    (λ found. finite_contains c.args.plan.now c.law_accepted.ensures c.requires.possible.zero_line c.args.places c.requires.least found)
    (returns-clause-exact c)

pub returns-clause-in_range : goal.returns-clause-in_range
returns-clause-in_range c =
    IfOk-weaker c.measures.result _ _ (λ found. finite_in_range c.args.plan.now c.args.places found) (returns-clause-exact c)

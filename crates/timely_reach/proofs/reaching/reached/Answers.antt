use Rattle.std.proofs.Common.{◌∙◌, ap₂, subst}
use Rattle.std.proofs.lemmas.Result.{IfOk-weaker}
use Rattle.hyper_model.specs.Grid.{IsSized}
use Rattle.plan_solver.proofs.PlanChains.{one_each}
use Rattle.timely_reach.specs.ReachRows.{rows_from}
use Rattle.timely_reach.proofs.ReachRows.{one_reach, reach_contains, reach_in_range, reach_is}
use Rattle.timely_reach.proofs.reaching.reached.Goals as goal

pub of-requires-clause-order : goal.of-requires-clause-order
of-requires-clause-order c = c.requires.ordered

pub of-requires-clause-one_each : goal.of-requires-clause-one_each
of-requires-clause-one_each c =
    one_each c.args.plan.now c.calls-calls.ensures.accepted c.args.weighed.now.order c.requires.ordered
    c.args.weighed.now.weights.items c.requires.weights

pub all_rows-requires : goal.all_rows-requires
all_rows-requires c =
    record { sized = c.in_ok-parts.ensures.sized; limits = c.args.limits.now; timed = c.in_ok-timely.ensures }

pub returns-clause-exact : goal.returns-clause-exact
returns-clause-exact c =
    let p = c.args.plan.now in
    IfOk-weaker c.all_rows.result _ _
    (λ rows is. reach_is p c.args.limits.now c.args.weighed.now.order c.args.weighed.now.weights.items c.requires rows
    (is ∙ ap₂ (λ t parts. rows_from p t parts) c.in_ok-timely.ensures c.in_ok-parts.ensures.exact))
    c.all_rows.ensures

pub returns-clause-alone : goal.returns-clause-alone
returns-clause-alone c =
    IfOk-weaker c.all_rows.result _ _ (λ rows is others. one_reach c.args.plan.now c.args.limits.now rows others is)
    (returns-clause-exact c)

pub returns-clause-contains : goal.returns-clause-contains
returns-clause-contains c =
    let p = c.args.plan.now in
    IfOk-weaker c.all_rows.result _ _
    (λ rows. reach_contains p c.calls-calls.ensures.accepted (subst IsSized c.travel_table.ensures c.cols-places.ensures.sized)
    c.args.limits.now rows)
    (returns-clause-exact c)

pub returns-clause-in_range : goal.returns-clause-in_range
returns-clause-in_range c =
    let p = c.args.plan.now in
    IfOk-weaker c.all_rows.result _ _
    (λ rows. reach_in_range p c.calls-calls.ensures.accepted (subst IsSized c.travel_table.ensures c.cols-places.ensures.sized)
    c.law_existence.ensures c.args.limits.now rows)
    (returns-clause-exact c)

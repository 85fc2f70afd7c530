use Rattle.std.proofs.Common.{sym, subst}
use Rattle.busy_words.specs.WeightParts.{IsOrderOf}
use Rattle.fleet_measures.proofs.FleetLists.{measures_are, pooled_order}
use Rattle.fleet_measures.proofs.listing.fleet_measures.Goals as goal

pub gathered_weights-requires-clause-order : goal.gathered_weights-requires-clause-order
gathered_weights-requires-clause-order c =
    pooled_order c.args.fleet.now c.in_ok-order.order c.stations.result c.stations.ensures.stations
    c.in_ok-order.ensures.units c.in_ok-order.ensures.ordered

pub of-requires-2-clause-order : goal.of-requires-2-clause-order
of-requires-2-clause-order c =
    subst (λ p. IsOrderOf p c.in_ok-order.order) (sym c.in_ok-plan.ensures)
    (pooled_order c.args.fleet.now c.in_ok-order.order c.stations.result c.stations.ensures.stations
    c.in_ok-order.ensures.units c.in_ok-order.ensures.ordered)

pub push_full-requires-clause-order : goal.push_full-requires-clause-order
push_full-requires-clause-order c =
    subst (λ p. IsOrderOf p c.in_ok-order.order) (sym c.in_ok-plan.ensures)
    (pooled_order c.args.fleet.now c.in_ok-order.order c.stations.result c.stations.ensures.stations
    c.in_ok-order.ensures.units c.in_ok-order.ensures.ordered)

pub returns-clause-exact : goal.returns-clause-exact
returns-clause-exact c =
    measures_are c.args.fleet.now c.in_ok-order.order c.args.weights.now.items c.in_ok-gathered.gathered.items
    c.in_ok-plan.plan c.in_ok-parts.parts c.new-found.result.items c.push_line.new.found.items
    c.push_workloads.new.found.items c.push_full.new.found.items c.push_answers.new.found.items
    c.in_ok-plan.ensures
    (pooled_order c.args.fleet.now c.in_ok-order.order c.stations.result c.stations.ensures.stations
    c.in_ok-order.ensures.units c.in_ok-order.ensures.ordered)
    c.in_ok-gathered.ensures c.in_ok-parts.ensures.exact c.new-found.ensures.items c.in_ok-push_line.ensures.items
    c.in_ok-push_workloads.ensures.items c.in_ok-push_full.ensures.items c.in_ok-push_answers.ensures.items

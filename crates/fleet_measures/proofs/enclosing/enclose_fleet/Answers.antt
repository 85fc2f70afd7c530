use Rattle.std.proofs.lemmas.Result.{IfOk-weaker}
use Rattle.fleet_measures.proofs.FleetLists.{enclosure_contains, enclosure_is}
use Rattle.fleet_measures.proofs.enclosing.enclose_fleet.Goals as goal

pub returns-in_err-reserved-clause-solvable : goal.returns-in_err-reserved-clause-solvable
returns-in_err-reserved-clause-solvable c = c.law_crews.ensures.solvable _ c.args.fleet.now c.law_fleet.ensures.accepted

pub returns-clause-solvable : goal.returns-clause-solvable
returns-clause-solvable c = c.law_crews.ensures.solvable _ c.args.fleet.now c.law_fleet.ensures.accepted

pub returns-clause-exact : goal.returns-clause-exact
returns-clause-exact c =
    IfOk-weaker c.fleet_measures.result _ _
    (λ found.
    enclosure_is c.args.fleet.now c.law_fleet.ensures c.weigh-weighed.result.weights.items c.weigh-weighed.result.is_certified
    (rw c.in_ok-reserved.ensures at c.weigh-weighed.ensures.certified)
    (rw c.in_ok-reserved.ensures at c.weigh-weighed.ensures.widest)
    (rw c.in_ok-reserved.ensures at c.weigh-weighed.ensures.encloses) found.items)
    c.fleet_measures.ensures.exact

pub returns-clause-contains : goal.returns-clause-contains
returns-clause-contains c =
    IfOk-weaker c.fleet_measures.result _ _
    (λ found. enclosure_contains c.args.fleet.now c.law_fleet.ensures found.items) (returns-clause-exact c)

pub returns-clause-each_crew : goal.returns-clause-each_crew
returns-clause-each_crew c =
    IfOk-weaker c.fleet_measures.result _ _
    (λ found. c.law_fleet_measures.ensures.each_crew c.args.fleet.now c.law_fleet.ensures found.items)
    (returns-clause-contains c)

use Rattle.std.proofs.Common.{rules}
use Rattle.travel_measures.specs.TravelEnds.{unit_time}
use Rattle.travel_measures.proofs.unit_list.unit_times.Goals as goal

pub returns-clause-exact : goal.returns-clause-exact
returns-clause-exact c =
    let is = c.in_ok-push_each.ensures.exact (unit_time c.args.plan.now c.args.parts.now) (λ i e l h. search rules) in
    rw (c.new-found.ensures.items, c.units.ensures.units) at is

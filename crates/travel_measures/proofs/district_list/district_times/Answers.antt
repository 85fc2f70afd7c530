use Rattle.std.proofs.Common.{rules}
use Rattle.travel_measures.specs.TravelEnds.{district_time}
use Rattle.travel_measures.proofs.district_list.district_times.Goals as goal

pub returns-clause-exact : goal.returns-clause-exact
returns-clause-exact c =
    let is = c.in_ok-push_each.ensures.exact (district_time c.args.plan.now c.args.parts.now) (λ i e l h. search rules) in
    rw (c.new-found.ensures.items, c.units.ensures.units) at is

use Rattle.std.proofs.Common.{◌≡◌, ap, ◌∙◌, arith}
use Rattle.fixed_interval.specs.Ends.{scaled_ends}
use Rattle.hyper_model.specs.Plans.{units}
use Rattle.hyper_model.specs.Measures.{mean_travel}
use Rattle.busy_words.specs.Algebra.{total_ends}
use Rattle.dispatch_fractions.specs.PartLists.{taken_by}
use Rattle.travel_measures.proofs.trips.trips_to.Goals as goal

pub returns-clause-ends : goal.returns-clause-ends
returns-clause-ends c =
    let end : c.loop-unit.unit ≡ units c.args.plan.now = omega (arith, c.units-unit-end.ensures.units) in
    c.loop-unit.invariant.flow
    ∙ ap (λ n. total_ends n (λ m.
    scaled_ends (mean_travel c.args.plan.now m c.args.atom) (taken_by c.args.parts.now m c.args.atom))) end

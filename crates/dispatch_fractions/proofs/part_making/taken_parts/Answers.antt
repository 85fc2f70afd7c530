use Rattle.std.proofs.Common.{◌≡◌, ap, ◌∙◌, arith}
use Rattle.std.specs.List.{flat_map, range_with_len}
use Rattle.fixed_interval.specs.WeightList.{ends_at}
use Rattle.hyper_model.specs.Plans.{units}
use Rattle.dispatch_fractions.specs.PartLists.{taken_row}
use Rattle.hyper_model.proofs.Ranges.{flat_more}
use Rattle.dispatch_fractions.proofs.part_making.taken_parts.Goals as goal

pub loop-unit-preserved : goal.loop-unit-preserved
loop-unit-preserved c =
    flat_more (taken_row c.args.plan.now c.args.order.now (ends_at c.args.weights.now.items)) c.loop-unit.taken.items
    c.push_taken.new.taken.items c.loop-unit.unit c.loop-unit.invariant c.in_ok-push_taken.ensures

pub returns : goal.returns
returns c =
    let end : c.loop-unit.unit ≡ units c.args.plan.now = omega (arith, c.units-unit-end.ensures.units) in
    c.loop-unit.invariant
    ∙ ap (λ n. flat_map (taken_row c.args.plan.now c.args.order.now (ends_at c.args.weights.now.items)) (range_with_len 0 n))
    end

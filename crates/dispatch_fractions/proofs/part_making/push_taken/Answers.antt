use Rattle.std.proofs.Common.{◌≡◌, ◌++◌, map, ap, ◌∙◌, arith}
use Rattle.std.specs.List.{range_with_len}
use Rattle.fixed_interval.specs.WeightList.{ends_at}
use Rattle.hyper_model.specs.Plans.{atoms}
use Rattle.busy_words.specs.WeightParts.{taken_part}
use Rattle.hyper_model.proofs.Ranges.{map_more}
use Rattle.dispatch_fractions.proofs.part_making.push_taken.Goals as goal

pub loop-atom-preserved : goal.loop-atom-preserved
loop-atom-preserved c =
    map_more (taken_part c.args.plan.now c.args.order.now (ends_at c.args.weights.now.items) c.args.unit)
    c.args.taken.now.items c.loop-atom.taken.items c.push.new.self.items c.loop-atom.atom c.taken_part.result
    c.loop-atom.invariant c.taken_part.ensures.ends c.in_ok-push.ensures.items

pub returns : goal.returns
returns c =
    let end : c.loop-atom.atom ≡ atoms c.args.plan.now = omega (arith, c.atoms-atom-end.ensures.atoms) in
    c.loop-atom.invariant
    ∙ ap (λ n. c.args.taken.now.items
    ++ map (taken_part c.args.plan.now c.args.order.now (ends_at c.args.weights.now.items) c.args.unit) (range_with_len 0 n))
    end

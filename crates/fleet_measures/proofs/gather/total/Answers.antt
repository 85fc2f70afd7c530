use Rattle.std.proofs.Common.{◌≡◌, length, ap, ◌∙◌, arith}
use Rattle.fixed_interval.specs.Ends.{Ends}
use Rattle.fixed_interval.specs.WeightList.{ends_at}
use Rattle.busy_words.specs.Algebra.{total_ends}
use Rattle.fleet_measures.proofs.gather.total.Goals as goal

pub plus-total-requires : goal.plus-total-requires
plus-total-requires c =
    omega (
      arith,
      c.loop-place.invariant.most,
      c.get.ensures.in_range,
      ap (λ (e : Ends). e.hi) c.wide.ensures.ends,
      c.requires,
      c.len-place-end.ensures.count,
    )

pub returns-clause-sum : goal.returns-clause-sum
returns-clause-sum c =
    let items = c.args.weights.now.items in
    let end : c.loop-place.place ≡ length items = omega (arith, c.len-place-end.ensures.count) in
    c.loop-place.invariant.sum ∙ ap (λ n. total_ends n (ends_at items)) end

pub returns-clause-most : goal.returns-clause-most
returns-clause-most c =
    omega (arith, c.loop-place.invariant.most, c.len-place-end.ensures.count, c.requires)

use Rattle.std.proofs.Common.{◌≡◌, ◌^◌, length, not, ap, ap₂, ◌∙◌, arith}
use Rattle.fixed_interval.specs.Ends.{share_ends}
use Rattle.fixed_interval.specs.WeightList.{ends_at}
use Rattle.busy_words.specs.Parts.{is_from_to, set_ends}
use Rattle.busy_words.proofs.sums.part_between.Goals as goal

pub returns : goal.returns
returns c =
    let items = c.args.weights.now.items in
    let end : c.loop-place.place ≡ length items = omega (arith, c.len-place-end.ensures.count) in
    c.part_of.ensures.ends
    ∙ ap₂ (share_ends (2 ^ 62))
    (c.loop-place.invariant.inside ∙ ap (λ n. set_ends n (is_from_to c.args.first c.args.past) (ends_at items)) end)
    (c.loop-place.invariant.rest ∙ ap (λ n. set_ends n (λ i. not (is_from_to c.args.first c.args.past i)) (ends_at items)) end)

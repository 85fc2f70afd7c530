use Rattle.std.proofs.Common.{◌≡◌, ◌^◌, ap, ap₂, ◌∙◌, arith}
use Rattle.fixed_interval.specs.Ends.{share_ends}
use Rattle.fixed_interval.specs.WeightList.{ends_at}
use Rattle.hyper_model.specs.Words.{words}
use Rattle.busy_words.specs.Order.{word_at}
use Rattle.busy_words.specs.Parts.{set_ends}
use Rattle.pair_dispatch.specs.PairEnds.{is_member, is_other}
use Rattle.pair_dispatch.proofs.sums.part_of.Goals as goal

pub returns : goal.returns
returns c =
    let p = c.args.plan.now in
    let items = c.args.weights.now.items in
    let end : c.loop-rank.rank ≡ words p = omega (arith, c.len-rank-end.ensures.count, c.requires.one_each) in
    c.part_of.ensures.ends
    ∙ ap₂ (share_ends (2 ^ 62))
    (c.loop-rank.invariant.inside
    ∙ ap (λ n. set_ends n (λ i. is_member p c.args.set (word_at c.args.order.now i)) (ends_at items)) end)
    (c.loop-rank.invariant.rest
    ∙ ap (λ n. set_ends n (λ i. is_other p c.args.set (word_at c.args.order.now i)) (ends_at items)) end)

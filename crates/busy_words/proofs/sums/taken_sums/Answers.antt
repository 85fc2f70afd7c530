use Rattle.std.proofs.Common.{◌≡◌, ℕ, suc, ◌+◌, ◌-◌, ◌^◌, ◌≤◌, Bool, true, false, cond, refl, ap, ap₂, ◌∙◌, arith}
use Rattle.fixed_interval.specs.Ends.{plus_ends, scaled_ends}
use Rattle.fixed_interval.specs.WeightList.{ends_at}
use Rattle.hyper_model.specs.Plans.{split}
use Rattle.hyper_model.specs.Words.{takes, portion}
use Rattle.busy_words.specs.Order.{word_or_full}
use Rattle.busy_words.specs.WeightParts.{taken_shares, other_shares}
use Rattle.busy_words.proofs.Algebra.{total_more, room_more}
use Rattle.busy_words.proofs.sums.taken_sums.Goals as goal

-- what is left of all shares
others_left : (b : Bool) (k s : ℕ) → s - cond b k 0 ≡ cond b (s - k) s
others_left true k s = refl
others_left false k s = omega arith

pub loop-place-preserved : goal.loop-place-preserved
loop-place-preserved c =
    let p = c.args.plan.now in
    let items = c.args.weights.now.items in
    let i = c.loop-place.place in
    let next : i + 1 ≡ suc i = omega arith in
    let weight = c.wide-weight.ensures.ends ∙ c.get.ensures.item in
    let taken = c.taken_share-taken.ensures.shares
    ∙ ap (taken_shares p c.args.unit c.args.atom) c.word_or_full.ensures.word in
    let others = c.from-in-loop-place.ensures ∙ ap₂ (λ s k. s - k) c.split-split.ensures.split taken
    ∙ others_left (takes p c.args.atom (word_or_full c.args.order.now i) c.args.unit)
    (portion p c.args.atom (word_or_full c.args.order.now i)) (split p) in
    let small : c.wide-weight.result.hi ≤ 2 ^ 52 = omega (arith, ap (λ e. e.hi) c.wide-weight.ensures.ends, c.get.ensures.in_range) in
    record {
      inside = total_more (λ k. scaled_ends (taken_shares p c.args.unit c.args.atom (word_or_full c.args.order.now k)) (ends_at items k))
          i (i + 1) c.loop-place.inside c.scaled.result c.plus-inside.result next c.loop-place.invariant.inside
          (c.scaled.ensures.ends ∙ ap₂ scaled_ends (c.from.ensures ∙ taken) weight) c.plus-inside.ensures.ends;
      rest = total_more (λ k. scaled_ends (other_shares p c.args.unit c.args.atom (word_or_full c.args.order.now k)) (ends_at items k))
          i (i + 1) c.loop-place.rest c.scaled-in-loop-place.result c.plus-rest.result next c.loop-place.invariant.rest
          (c.scaled-in-loop-place.ensures.ends ∙ ap₂ scaled_ends others weight) c.plus-rest.ensures.ends;
      most = room_more i (i + 1) c.from.result c.split-split.result c.loop-place.inside.hi c.plus-inside.result.hi
          c.wide-weight.result.hi (2 ^ 52) next
          (ap (λ e. e.hi) (c.plus-inside.ensures.ends ∙ ap (plus_ends c.loop-place.inside) c.scaled.ensures.ends))
          c.loop-place.invariant.most
          (omega (arith, c.from.ensures, c.taken_share-taken.ensures.most, c.split-split.ensures.split)) small;
      most_rest = room_more i (i + 1) c.from-in-loop-place.result c.split-split.result c.loop-place.rest.hi c.plus-rest.result.hi
          c.wide-weight.result.hi (2 ^ 52) next
          (ap (λ e. e.hi) (c.plus-rest.ensures.ends ∙ ap (plus_ends c.loop-place.rest) c.scaled-in-loop-place.ensures.ends))
          c.loop-place.invariant.most_rest (omega (arith, c.from-in-loop-place.ensures)) small;
      room = omega arith;
    }

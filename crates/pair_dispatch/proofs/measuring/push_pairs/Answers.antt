use Rattle.std.proofs.Common.{◌++◌, ap, sym, ◌∙◌, append_assoc}
use Rattle.std.specs.List.{flat_map, range_with_len}
use Rattle.hyper_model.proofs.Ranges.{flat_next}
use Rattle.pair_dispatch.specs.PairEnds.{pairs_from}
use Rattle.pair_dispatch.proofs.measuring.push_pairs.Goals as goal

pub loop-first-preserved : goal.loop-first-preserved
loop-first-preserved c =
    let first = c.loop-first.first in
    let old = c.args.found.now.items in
    let pairs = pairs_from c.args.plan.now c.args.order.now c.args.weights.now.items in
    c.in_ok-push_pairs_from.ensures
    ∙ ap (λ xs. xs ++ pairs first) c.loop-first.invariant
    ∙ append_assoc old (flat_map pairs (range_with_len 0 first)) (pairs first)
    ∙ ap (λ xs. old ++ xs) (sym (flat_next pairs first))

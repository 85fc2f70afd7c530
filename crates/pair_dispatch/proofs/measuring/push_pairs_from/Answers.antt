use Rattle.std.proofs.Common.{◌≡◌, ◌+◌, ◌-◌, [], ◌∷◌, ◌++◌, map, ap, ap₂, sym, ◌∙◌, append_assoc, arith}
use Rattle.std.specs.List.{range_with_len}
use Rattle.std.proofs.lemmas.List.FromFn.{map-range_with_len_more}
use Rattle.pair_dispatch.specs.PairEnds.{pair_of}
use Rattle.pair_dispatch.proofs.measuring.push_pairs_from.Goals as goal

pub loop-second-preserved : goal.loop-second-preserved
loop-second-preserved c =
    let first = c.args.first in
    let second = c.loop-second.second in
    let old = c.args.found.now.items in
    let pair = pair_of c.args.plan.now c.args.order.now c.args.weights.now.items first in
    let count = second - (first + 1) in
    let longer : count + 1 ≡ second + 1 - (first + 1) = omega arith in
    c.in_ok-push.ensures.items
    ∙ ap₂ (λ xs e. xs ++ e ∷ []) c.loop-second.invariant c.pair_of.ensures
    ∙ append_assoc old (map pair (range_with_len (first + 1) count)) (pair second ∷ [])
    ∙ ap (λ xs. old ++ xs) (sym (map-range_with_len_more pair (first + 1) count second (omega arith)))
    ∙ ap (λ n. old ++ map pair (range_with_len (first + 1) n)) longer

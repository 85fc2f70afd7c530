use Rattle.std.proofs.Common.{◌≡◌, ◌*◌, ◌∙◌, ap, sym, arith, length}
use Rattle.plan_compare.specs.Verdicts.{all_pairs, pairs_of}
use Rattle.plan_compare.proofs.Pairs.{all_pairs-length}
use Rattle.plan_compare.proofs.verdict_list.VerdictList.reserved.Goals as goal

pub returns-clause-spare : goal.returns-clause-spare
returns-clause-spare c =
    let count : c.measures.result * c.pair_count.result ≡ length (all_pairs c.args.study.now) =
    ap (λ k. k * c.pair_count.result) c.measures.ensures.number
    ∙ sym (all_pairs-length c.args.study.now c.pair_count.result
    (λ m. c.pair_count.ensures.pairs m ∙ ap (λ k. length (pairs_of k m)) c.plans.ensures.number)) in
    omega (arith, count, c.in_ok-with_capacity.ensures.exact, c.in_ok-with_capacity.ensures.len)

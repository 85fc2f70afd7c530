use Rattle.std.proofs.Common.{◌≡◌, ◌≤◌, ◌+◌, ◌*◌, subst, arith}
use Rattle.hyper_model.specs.Plans.{all_calls, all_service}
use Rattle.hyper_model.specs.Words.{words}
use Rattle.rate_matrix.specs.Elimination.{outflow_of}
use Rattle.rate_matrix.proofs.WordChains.{ordered_words}
use Rattle.pair_dispatch.specs.PairRates.{pair_rates}
use Rattle.pair_dispatch.proofs.PairChains.{pair_ranks_bounded}
use Rattle.pair_dispatch.proofs.chain.PairChainChain.top.Goals as goal

pub returns-clause-bounded : goal.returns-clause-bounded
returns-clause-bounded c i l =
    let s = c.args.self.now in
    let p = s.plan.now in
    let calls : all_calls p ≡ c.from.result = omega arith in
    let service : all_service p ≡ c.from-2.result = omega arith in
    let most = pair_ranks_bounded p s.percent c.calls.ensures.accepted s.in_range s.order.now
    (ordered_words p s.order.now s.same_units c.units-units.ensures.ordered) i l in
    omega (arith, most, calls, service)

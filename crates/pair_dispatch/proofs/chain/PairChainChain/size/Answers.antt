use Rattle.rate_matrix.proofs.WordChains.{ordered_words}
use Rattle.pair_dispatch.proofs.PairChains.{pair_ranks_descend}
use Rattle.pair_dispatch.proofs.chain.PairChainChain.size.Goals as goal

pub returns-clause-descends : goal.returns-clause-descends
returns-clause-descends c =
    let s = c.args.self.now in
    pair_ranks_descend s.plan.now s.percent c.law_accepted.ensures s.in_range s.order.now
    (ordered_words s.plan.now s.order.now s.same_units c.units-units.ensures.ordered)

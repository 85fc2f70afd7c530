use Rattle.rate_matrix.proofs.WordChains.{chain_descends, ordered_words}
use Rattle.rate_matrix.proofs.words.WordChainChain.size.Goals as goal

pub returns-clause-descends : goal.returns-clause-descends
returns-clause-descends c =
    chain_descends c.args.self.now.plan.now c.args.self.now.order.now c.law_accepted.ensures
    (ordered_words c.args.self.now.plan.now c.args.self.now.order.now c.args.self.now.same_units c.units-units.ensures.ordered)

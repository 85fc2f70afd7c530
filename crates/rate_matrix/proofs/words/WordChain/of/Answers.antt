use Rattle.rate_matrix.proofs.WordChains.{chain_balance, ordered_words}
use Rattle.rate_matrix.proofs.words.WordChain.of.Goals as goal

pub returns-clause-balance : goal.returns-clause-balance
returns-clause-balance c =
    chain_balance c.args.plan.now c.args.order.now c.law_accepted.ensures
    (ordered_words c.args.plan.now c.args.order.now c.requires c.units-units.ensures.ordered)

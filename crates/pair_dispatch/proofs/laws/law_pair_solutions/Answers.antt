use Rattle.hyper_model.specs.Words.{words}
use Rattle.hyper_model.proofs.Chains.{are_proportional}
use Rattle.pair_dispatch.specs.PairRates.{pair_table}
use Rattle.pair_dispatch.proofs.PairChains.{has_pair_solution, none_busy_positive, pairs_descend}
use Rattle.pair_dispatch.proofs.laws.law_pair_solutions.Goals as goal

pub returns-clause-exists : goal.returns-clause-exists
returns-clause-exists c = has_pair_solution c.args.plan.now c.args.percent c.law_accepted.ensures c.requires

pub returns-clause-first : goal.returns-clause-first
returns-clause-first c = none_busy_positive c.args.plan.now c.args.percent c.law_accepted.ensures c.requires

pub returns-clause-proportion : goal.returns-clause-proportion
returns-clause-proportion c =
    are_proportional (words c.args.plan.now) (pair_table c.args.plan.now c.args.percent)
    (pairs_descend c.args.plan.now c.args.percent c.law_accepted.ensures c.requires)

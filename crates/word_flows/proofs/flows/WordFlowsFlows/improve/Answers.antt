use Rattle.std.proofs.Common.{sym, subst, ◌^◌}
use Rattle.hyper_model.specs.Words.{words}
use Rattle.state_certificate.specs.Masses.{AreMasses}
use Rattle.word_flows.proofs.TurnRates.{leavings_small}
use Rattle.word_flows.proofs.flows.WordFlowsFlows.improve.Goals as goal

pub balance_levels-requires-clause-leavings : goal.balance_levels-requires-clause-leavings
balance_levels-requires-clause-leavings c =
    subst (λ list. AreMasses (words c.args.self.now.plan.now) (2 ^ 54) list) (sym c.deref.ensures.value)
    (leavings_small c.args.self.now.plan.now c.law_accepted.ensures c.args.self.now.leavings.items c.args.self.now.leaves)

use Rattle.std.proofs.Common.{◌≡◌, ◌≤◌, ◌+◌, ◌*◌, subst, arith}
use Rattle.hyper_model.specs.Plans.{all_calls, all_service, split}
use Rattle.rate_matrix.specs.WordChains.{word_rates}
use Rattle.hyper_model.specs.Words.{words}
use Rattle.rate_matrix.specs.Elimination.{outflow_of}
use Rattle.rate_matrix.proofs.WordChains.{chain_bounded, ordered_words}
use Rattle.rate_matrix.proofs.words.WordChainChain.top.Goals as goal

pub returns-clause-bounded : goal.returns-clause-bounded
returns-clause-bounded c i l =
    let p = c.args.self.now.plan.now in
    let calls : all_calls p ≡ c.from-2.result = omega arith in
    let service : all_service p ≡ c.from-3.result = omega arith in
    let factor : split p ≡ c.from.result = omega arith in
    let most = chain_bounded p c.args.self.now.order.now c.calls.ensures.accepted
    (ordered_words p c.args.self.now.order.now c.args.self.now.same_units c.units-units.ensures.ordered) i l in
    subst (λ s. outflow_of (words p) (word_rates p c.args.self.now.order.now) i ≤ s * (c.from-2.result + c.from-3.result)) factor
    (subst (λ a. outflow_of (words p) (word_rates p c.args.self.now.order.now) i ≤ split p * (a + c.from-3.result)) calls
    (subst (λ a. outflow_of (words p) (word_rates p c.args.self.now.order.now) i ≤ split p * (all_calls p + a)) service most))

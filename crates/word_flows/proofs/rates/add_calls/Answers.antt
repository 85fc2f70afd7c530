use Rattle.std.proofs.Common.{◌≡◌, ◌*◌, ap, subst, ◌∙◌, arith}
use Rattle.hyper_model.specs.Plans.{units}
use Rattle.hyper_model.specs.Words.{words}
use Rattle.word_flows.specs.TurnRates.{HasRates, rate_in_turn}
use Rattle.word_flows.proofs.TurnRates.{turn_begins, turn_ends}
use Rattle.word_flows.proofs.rates.add_calls.Goals as goal

pub loop-word-init : goal.loop-word-init
loop-word-init c =
    let none : 0 ≡ 0 * units c.args.plan.now = omega arith in
    subst (λ k. HasRates c.args.plan.now (rate_in_turn c.args.plan.now c.args.atom k) c.args.rates.now) none
    (turn_begins c.args.plan.now c.args.atom c.args.rates.now c.requires.rates)

pub returns : goal.returns
returns c =
    let all : c.loop-word.word ≡ words c.args.plan.now = omega (arith, c.words_of-word-end.ensures.words) in
    turn_ends c.args.plan.now c.args.atom c.loop-word.rates
    (subst (λ k. HasRates c.args.plan.now (rate_in_turn c.args.plan.now c.args.atom (k * units c.args.plan.now)) c.loop-word.rates) all
    c.loop-word.invariant)

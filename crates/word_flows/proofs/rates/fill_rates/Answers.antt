use Rattle.std.proofs.Common.{◌≡◌, subst, arith}
use Rattle.hyper_model.specs.Plans.{atoms}
use Rattle.word_flows.specs.TurnRates.{HasRates, rate_of_first}
use Rattle.word_flows.proofs.TurnRates.{all_counted, none_counted}
use Rattle.word_flows.proofs.rates.fill_rates.Goals as goal

pub loop-atom-init : goal.loop-atom-init
loop-atom-init c = none_counted c.args.plan.now c.fill_services.new.rates c.fill_services.ensures

pub returns : goal.returns
returns c =
    let all : c.loop-atom.atom ≡ atoms c.args.plan.now = omega (arith, c.atoms-atom-end.ensures.atoms) in
    all_counted c.args.plan.now c.loop-atom.rates
    (subst (λ k. HasRates c.args.plan.now (rate_of_first k c.args.plan.now) c.loop-atom.rates) all c.loop-atom.invariant)

use Rattle.std.proofs.Common.{◌≡◌, ◌*◌, ◌+◌, ◌∙◌, refl, ap, arith}
use Rattle.hyper_model.specs.Plans.{units}
use Rattle.hyper_model.specs.Tables.{turn_rate}
use Rattle.hyper_model.specs.Words.{words}
use Rattle.word_flows.proofs.TurnRates.{place_inside, rate_here, turn_small}
use Rattle.word_flows.proofs.rates.rate_of.Goals as goal

pub returns : goal.returns
returns c =
    let p = c.args.plan.now in
    let here = rate_here p (turn_rate p) c.args.rates.now c.args.word c.args.unit c.from.result c.args.word c.requires.rates
    c.requires.word c.requires.unit (c.from.ensures ∙ c.words_of.ensures.words) refl in
    record { rate = here; most = omega (arith, here, turn_small p c.law_accepted.ensures c.args.word c.args.unit c.requires.unit) }

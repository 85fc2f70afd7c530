use Rattle.std.proofs.Common.{◌/◌, ◌%◌, ◌∙◌, ap, arith}
use Rattle.hyper_model.specs.Rates.{down}
use Rattle.word_flows.proofs.TurnRates.{place_inside, served_more}
use Rattle.word_flows.proofs.rates.fill_services.Goals as goal

pub loop-place-preserved : goal.loop-place-preserved
loop-place-preserved c =
    served_more c.args.plan.now c.loop-place.rates c.loop-place.place c.served.result (omega arith) c.loop-place.invariant
    (c.served.ensures
    ∙ ap (λ k. down c.args.plan.now (c.loop-place.place % k) (c.loop-place.place / k))
    (c.from-words.ensures ∙ c.words_of.ensures.words))

pub returns : goal.returns
returns c = record {
  one_each = omega arith;
  each = λ w n l k. c.loop-place.invariant w n l k (omega (arith, place_inside c.args.plan.now w n l k));
}

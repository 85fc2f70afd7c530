use Rattle.std.proofs.Common.{◌*◌}
use Rattle.hyper_model.specs.Plans.{units}
use Rattle.word_flows.specs.TurnRates.{HasRates, rate_in_turn}
use Rattle.word_flows.proofs.rates.add_calls.Given as goal

abbrev pub invariant-loop-word : goal.invariant-loop-word
invariant-loop-word l = HasRates l.plan (rate_in_turn l.plan l.atom (l.word * units l.plan)) l.rates

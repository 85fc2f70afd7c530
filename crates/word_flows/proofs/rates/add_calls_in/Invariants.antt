use Rattle.std.proofs.Common.{◌+◌, ◌*◌}
use Rattle.hyper_model.specs.Plans.{units}
use Rattle.word_flows.specs.TurnRates.{HasRates, rate_in_turn}
use Rattle.word_flows.proofs.rates.add_calls_in.Given as goal

abbrev pub invariant-loop-unit : goal.invariant-loop-unit
invariant-loop-unit l = HasRates l.plan (rate_in_turn l.plan l.atom (l.word * units l.plan + l.unit)) l.rates

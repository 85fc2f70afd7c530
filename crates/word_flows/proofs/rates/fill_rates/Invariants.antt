use Rattle.word_flows.specs.TurnRates.{HasRates, rate_of_first}
use Rattle.word_flows.proofs.rates.fill_rates.Given as goal

abbrev pub invariant-loop-atom : goal.invariant-loop-atom
invariant-loop-atom l = HasRates l.plan (rate_of_first l.atom l.plan) l.rates

use Rattle.station_flows.specs.StateRates.{HasRates, sent_so_far}
use Rattle.station_flows.proofs.rates.add_calls.Given as goal

abbrev pub invariant-loop-atom : goal.invariant-loop-atom
invariant-loop-atom l = HasRates l.numbers (sent_so_far l.numbers l.state l.atom) l.sent

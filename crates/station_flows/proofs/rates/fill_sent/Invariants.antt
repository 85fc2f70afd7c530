use Rattle.station_flows.specs.StateRates.{HasRates, sent_so_far}
use Rattle.station_flows.proofs.rates.fill_sent.Given as goal

abbrev pub invariant-loop-state : goal.invariant-loop-state
invariant-loop-state l = HasRates l.numbers (sent_so_far l.numbers l.state 0) l.sent

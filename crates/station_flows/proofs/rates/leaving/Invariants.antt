use Rattle.std.proofs.Common.{◌≡◌, ◌+◌, ◌*◌, ◌≤◌}
use Rattle.hyper_model.specs.Sums.{sum_below}
use Rattle.crew_stations.specs.Stations.{sent_rate, ended_rate}
use Rattle.station_flows.proofs.rates.leaving.Given as goal

abbrev pub invariant-loop-station : goal.invariant-loop-station
invariant-loop-station l = record {
  sum : l.sum ≡ sum_below l.station (λ k. sent_rate l.numbers l.state k + ended_rate l.numbers l.state k);
  most : l.sum ≤ l.station * 201000000;
}

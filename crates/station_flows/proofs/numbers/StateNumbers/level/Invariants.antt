use Rattle.std.proofs.Common.{◌≤◌}
use Rattle.hyper_model.specs.Sums.{sum_below}
use Rattle.crew_stations.specs.Stations.{crews_at}
use Rattle.station_flows.proofs.numbers.StateNumbers.level.Given as goal

abbrev pub invariant-loop-station : goal.invariant-loop-station
invariant-loop-station l = l.level ≤ sum_below l.station (crews_at l.self)

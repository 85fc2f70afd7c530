use Rattle.std.proofs.Common.{◌≡◌}
use Rattle.hyper_model.specs.Sums.{sum_below}
use Rattle.crew_stations.specs.Stations.{crews_at}
use Rattle.fleet_text.proofs.head.count_crews.Given as goal

abbrev pub invariant-loop-k : goal.invariant-loop-k
invariant-loop-k l = l.number ≡ sum_below l.k (crews_at l.fleet)

use Rattle.std.proofs.Common.{◌≡◌, ◌*◌, ◌^◌, ◌≤◌}
use Rattle.hyper_model.specs.Sums.{sum_below}
use Rattle.crew_stations.specs.Stations.{crews_at}
use Rattle.plan_reader.proofs.fleet_limits.count_crews.Given as goal

abbrev pub invariant-loop-k : goal.invariant-loop-k
invariant-loop-k l = record {
  sum : l.number ≡ sum_below l.k (crews_at (record { parts = l.parts; crews = l.crews }));
  small : l.number ≤ l.k * 2 ^ 32;
}

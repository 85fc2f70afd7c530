use Rattle.std.proofs.Common.{◌≡◌, ◌*◌, ◌^◌, ◌≤◌}
use Rattle.hyper_model.specs.Sums.{sum_below}
use Rattle.crew_stations.specs.Stations.{crew_service, crews_at}
use Rattle.plan_reader.proofs.fleet_limits.fleet_service.Given as goal

abbrev pub invariant-loop-k : goal.invariant-loop-k
invariant-loop-k l = record {
  sum : l.service ≡ sum_below l.k (λ k. crews_at (record { parts = l.parts; crews = l.crews }) k
      * crew_service (record { parts = l.parts; crews = l.crews }) k);
  small : l.service ≤ l.k * (200 * 2 ^ 32);
}

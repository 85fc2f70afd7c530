use Rattle.std.proofs.Common.{◌≡◌, ◌*◌}
use Rattle.hyper_model.specs.Sums.{sum_below}
use Rattle.crew_stations.specs.Stations.{crews_at, crew_service}
use Rattle.crew_stations.proofs.fleet.Fleet.service.Given as goal

abbrev pub invariant-loop-k : goal.invariant-loop-k
invariant-loop-k l = l.service ≡ sum_below l.k (λ k. crews_at l.self k * crew_service l.self k)

use Rattle.std.proofs.Common.{◌≡◌}
use Rattle.crew_stations.specs.Stations.{stride_of}
use Rattle.crew_stations.proofs.fleet.Fleet.states.Given as goal

abbrev pub invariant-loop-k : goal.invariant-loop-k
invariant-loop-k l = l.states ≡ stride_of l.self l.k

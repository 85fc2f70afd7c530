use Rattle.std.proofs.Common.{◌≡◌}
use Rattle.crew_stations.specs.Stations.{stride_of}
use Rattle.fleet_measures.proofs.workload.stride.Given as goal

abbrev pub invariant-loop-m : goal.invariant-loop-m
invariant-loop-m l = l.stride ≡ stride_of l.fleet l.m

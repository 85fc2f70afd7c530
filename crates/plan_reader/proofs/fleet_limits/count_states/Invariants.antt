use Rattle.std.proofs.Common.{◌≡◌}
use Rattle.crew_stations.specs.Stations.{stride_of}
use Rattle.plan_reader.proofs.fleet_limits.count_states.Given as goal

abbrev pub invariant-loop-k : goal.invariant-loop-k
invariant-loop-k l = l.states ≡ stride_of (record { parts = l.parts; crews = l.crews }) l.k

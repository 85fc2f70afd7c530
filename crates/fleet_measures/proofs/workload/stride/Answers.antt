use Rattle.std.proofs.Common.{arith}
use Rattle.crew_stations.specs.Stations.{crews_at}
use Rattle.crew_stations.proofs.Radix.{stride_positive}
use Rattle.fleet_measures.proofs.workload.stride.Goals as goal

pub returns-clause-least : goal.returns-clause-least
returns-clause-least c = omega (arith, c.loop-m.invariant, stride_positive (crews_at c.args.fleet.now) c.loop-m.m)

use Rattle.std.proofs.Common.{◌^◌}
use Rattle.crew_stations.specs.Stations.{states}
use Rattle.state_certificate.specs.Masses.{AreMasses}
use Rattle.station_flows.proofs.levels.scale_at.Given as goal

abbrev pub invariant-loop-state : goal.invariant-loop-state
invariant-loop-state l = AreMasses (states l.numbers) (2 ^ 61) l.masses

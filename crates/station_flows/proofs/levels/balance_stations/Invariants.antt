use Rattle.std.proofs.Common.{◌^◌}
use Rattle.crew_stations.specs.Stations.{states}
use Rattle.state_certificate.specs.Masses.{AreMasses}
use Rattle.station_flows.proofs.levels.balance_stations.Given as goal

abbrev pub invariant-loop-station : goal.invariant-loop-station
invariant-loop-station l = AreMasses (states l.numbers) (2 ^ 61) l.masses

use Rattle.std.proofs.Common.{◌+◌, ◌≤◌, arith}
use Rattle.crew_stations.specs.Stations.{stations, crews_at}
use Rattle.station_flows.proofs.StateRates.{crews_so_far, sum_next}
use Rattle.station_flows.proofs.numbers.StateNumbers.level.Goals as goal

pub overflow_add-level : goal.overflow_add-level
overflow_add-level c =
    let s = c.args.self.now in
    let inside : c.loop-station.station + 1 ≤ stations s = omega (arith, c.stations-station-end.ensures.stations) in
    omega (
      arith,
      c.busy-level.ensures.most,
      sum_next c.loop-station.station (crews_at s),
      crews_so_far s c.fleet-fleet.ensures.within (c.loop-station.station + 1) inside,
    )

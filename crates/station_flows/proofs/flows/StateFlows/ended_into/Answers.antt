use Rattle.std.proofs.Common.{◌<◌, arith}
use Rattle.crew_stations.specs.Stations.{busy_in, crews_at, stations}
use Rattle.crew_stations.proofs.Neighbours.{up_below}
use Rattle.station_flows.proofs.flows.StateFlows.ended_into.Goals as goal

pub bounds-masses-from : goal.bounds-masses-from
bounds-masses-from c =
    let s = c.args.self.now.numbers in
    let room : busy_in s c.args.state c.args.station < crews_at s c.args.station =
    omega (arith, c.if-busy-crews.false, c.busy-busy.ensures.busy, c.busy-busy.ensures.most, c.crews.ensures.crews) in
    omega (
      arith,
      c.requires.masses.one_each,
      c.stride.ensures.stride,
      up_below (crews_at s) c.args.station (stations s) c.args.state c.requires.station c.requires.state room,
    )

use Rattle.std.proofs.Common.{◌≡◌, ◌+◌, ◌*◌, ap, ◌∙◌, arith}
use Rattle.std.specs.Prelude.{slice_index}
use Rattle.crew_stations.specs.Stations.{sent_rate}
use Rattle.station_flows.proofs.StateRates.{sent_small}
use Rattle.station_flows.proofs.rates.sent_from.Goals as goal

pub returns-clause-most : goal.returns-clause-most
returns-clause-most c =
    let s = c.args.numbers.now in
    let here : slice_index c.args.sent.now (c.args.state * c.stations.result + c.args.station) ≡ sent_rate s c.args.state c.args.station =
    ap (λ n. slice_index c.args.sent.now (c.args.state * n + c.args.station)) c.stations.ensures.stations
    ∙ c.requires.sent.each c.args.state c.args.station c.requires.state c.requires.station in
    omega (arith, here, sent_small s c.fleet-fleet.ensures.within c.args.state c.args.station)

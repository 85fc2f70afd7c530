use Rattle.std.proofs.Common.{◌/◌, ◌%◌, ap, ◌∙◌}
use Rattle.crew_stations.specs.Stations.{busy_in}
use Rattle.station_flows.proofs.digits.digit_at.Goals as goal

pub returns : goal.returns
returns c =
    c.digit.ensures ∙ ap (λ n. busy_in c.args.fleet.now (c.args.place / n) (c.args.place % n)) c.stations-stations.ensures.stations

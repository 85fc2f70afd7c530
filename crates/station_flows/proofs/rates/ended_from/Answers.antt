use Rattle.std.proofs.Common.{◌≡◌, ◌*◌, ap₂, ◌∙◌, arith}
use Rattle.crew_stations.specs.Stations.{ended_rate}
use Rattle.station_flows.proofs.StateRates.{ended_small}
use Rattle.station_flows.proofs.rates.ended_from.Goals as goal

pub overflow_mul-result : goal.overflow_mul-result
overflow_mul-result c =
    let s = c.args.numbers.now in
    let here : c.busy.result * c.from.result ≡ ended_rate s c.args.state c.args.station =
    ap₂ (λ a b. a * b) c.busy.ensures.busy (c.from.ensures ∙ c.rate.ensures.rate) in
    omega (arith, here, ended_small s c.fleet-fleet.ensures.within c.args.state c.args.station c.requires.station)

pub returns-clause-most : goal.returns-clause-most
returns-clause-most c =
    let s = c.args.numbers.now in
    let here : c.busy.result * c.from.result ≡ ended_rate s c.args.state c.args.station =
    ap₂ (λ a b. a * b) c.busy.ensures.busy (c.from.ensures ∙ c.rate.ensures.rate) in
    omega (arith, here, ended_small s c.fleet-fleet.ensures.within c.args.state c.args.station c.requires.station)

use Rattle.std.proofs.Common.{◌≡◌, ◌+◌, ◌*◌, ◌≤◌, suc, ap, ap₂, ◌∙◌, arith}
use Rattle.hyper_model.specs.Sums.{sum_below}
use Rattle.crew_stations.specs.Stations.{stations, crews_at, crew_service, fleet_service}
use Rattle.crew_stations.proofs.Fleets.{service_positive, service_so_far}
use Rattle.crew_stations.proofs.fleet.Fleet.service.Goals as goal

pub overflow_add-service : goal.overflow_add-service
overflow_add-service c =
    let s = c.args.self.now in
    let inside : suc c.loop-k.k ≤ stations s = omega (arith, c.stations-k-end.ensures.stations) in
    let here : c.crews.result * c.station.result.now.rate ≡ crews_at s c.loop-k.k * crew_service s c.loop-k.k =
    ap₂ (λ a b. a * b) c.crews.ensures.crews (ap (λ u. u.rate) c.station.ensures.station) in
    let next : c.loop-k.service + c.crews.result * c.station.result.now.rate
    ≡ sum_below (suc c.loop-k.k) (λ k. crews_at s k * crew_service s k) =
    ap₂ (λ a b. a + b) c.loop-k.invariant here in
    omega (arith, next, service_so_far s c.law_fleet.ensures (suc c.loop-k.k) inside)

pub returns-clause-least : goal.returns-clause-least
returns-clause-least c =
    let s = c.args.self.now in
    let last : c.loop-k.k ≡ stations s = omega (arith, c.loop-k.auto.k-end, c.loop-k-test.false, c.stations-k-end.ensures.stations) in
    let whole : c.loop-k.service ≡ fleet_service s =
    c.loop-k.invariant ∙ ap (λ n. sum_below n (λ k. crews_at s k * crew_service s k)) last in
    omega (arith, whole, service_positive s c.law_fleet.ensures)

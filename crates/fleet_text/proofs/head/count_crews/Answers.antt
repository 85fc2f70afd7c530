use Rattle.std.proofs.Common.{◌≡◌, ◌+◌, ◌≤◌, suc, ap₂, arith}
use Rattle.hyper_model.specs.Sums.{sum_below}
use Rattle.hyper_model.proofs.TravelTimes.{sum_grows}
use Rattle.crew_stations.specs.Stations.{stations, crews_at}
use Rattle.fleet_text.proofs.head.count_crews.Goals as goal

-- the crews of the first stations are at most all
pub overflow_add-number : goal.overflow_add-number
overflow_add-number c =
    let s = c.args.fleet.now in
    let inside : suc c.loop-k.k ≤ stations s = omega (arith, c.stations-k-end.ensures.stations) in
    let next : c.loop-k.number + c.crews-number.result ≡ sum_below (suc c.loop-k.k) (crews_at s) =
    ap₂ (λ a b. a + b) c.loop-k.invariant c.crews-number.ensures.crews in
    omega (arith, next, sum_grows (suc c.loop-k.k) (stations s) (crews_at s) inside, c.law_fleet.ensures.accepted.number.high)

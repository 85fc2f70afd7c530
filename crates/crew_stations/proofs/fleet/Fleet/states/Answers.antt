use Rattle.std.proofs.Common.{◌≡◌, ◌+◌, ◌*◌, ◌≤◌, suc, ap₂, arith}
use Rattle.crew_stations.specs.Stations.{stations, crews_at, stride_of}
use Rattle.crew_stations.proofs.Fleets.{stride_small}
use Rattle.crew_stations.proofs.Radix.{stride_positive}
use Rattle.crew_stations.proofs.fleet.Fleet.states.Goals as goal

pub overflow_mul-states : goal.overflow_mul-states
overflow_mul-states c =
    let s = c.args.self.now in
    let inside : suc c.loop-k.k ≤ stations s = omega (arith, c.stations-k-end.ensures.stations) in
    let next : c.loop-k.states * (c.crews.result + 1) ≡ stride_of s (suc c.loop-k.k) =
    ap₂ (λ a b. a * (b + 1)) c.loop-k.invariant c.crews.ensures.crews in
    omega (arith, next, stride_small s c.law_fleet.ensures (suc c.loop-k.k) inside)

pub returns-clause-least : goal.returns-clause-least
returns-clause-least c =
    omega (arith, c.loop-k.invariant, stride_positive (crews_at c.args.self.now) c.loop-k.k)

pub returns-clause-most : goal.returns-clause-most
returns-clause-most c =
    let s = c.args.self.now in
    let all : c.loop-k.k ≤ stations s = omega (arith, c.stations-k-end.ensures.stations) in
    omega (arith, c.loop-k.invariant, stride_small s c.law_fleet.ensures c.loop-k.k all)

use Rattle.std.proofs.Common.{◌≡◌, ◌+◌, ◌*◌, ◌^◌, ◌<◌, ◌≤◌, suc, ap, ap₂, arith, sym, ◌∙◌}
use Rattle.std.proofs.lemmas.Nat.{mul-le}
use Rattle.std.proofs.lemmas.Option.{get_or_from_slice_get}
use Rattle.hyper_model.specs.Plans.{no_unit}
use Rattle.hyper_model.specs.Sums.{sum_below}
use Rattle.hyper_model.proofs.Sums.{place_le_sum}
use Rattle.crew_stations.specs.Stations.{StationPlan, crew_service, crews_at, stations}
use Rattle.plan_reader.proofs.fleet_limits.fleet_service.Goals as goal

pub overflow_add-service : goal.overflow_add-service
overflow_add-service c =
    let s : StationPlan = record { parts = c.args.parts.now; crews = c.args.crews.now } in
    let here : crews_at s c.loop-k.k ≡ c.get.result.now = get_or_from_slice_get s.crews c.loop-k.k c.get.result.now 0 c.get.ensures in
    let inside : c.loop-k.k < stations s = omega (arith, c.loop-k-test.true, c.len-k-end.ensures.number) in
    let few : c.from.result ≤ 200 = omega (arith, c.from.ensures, here, place_le_sum (stations s) (crews_at s) c.loop-k.k inside, c.requires.few) in
    let rate : c.from-in-loop-k.result ≤ 2 ^ 32 = omega (arith, c.from-in-loop-k.ensures) in
    let most : c.loop-k.k ≤ 12 = omega (arith, c.loop-k-test.true, c.len-k-end.ensures.most) in
    omega (arith, mul-le c.from.result c.from-in-loop-k.result 200 (2 ^ 32) few rate, c.loop-k.invariant.small, most)

pub loop-k-preserved : goal.loop-k-preserved
loop-k-preserved c =
    let s : StationPlan = record { parts = c.args.parts.now; crews = c.args.crews.now } in
    let here : crews_at s c.loop-k.k ≡ c.get.result.now = get_or_from_slice_get s.crews c.loop-k.k c.get.result.now 0 c.get.ensures in
    let unit = get_or_from_slice_get c.args.parts.now.units c.loop-k.k c.get-in-loop-k.result.now no_unit c.get-in-loop-k.ensures in
    let served : crew_service s c.loop-k.k ≡ c.get-in-loop-k.result.now.rate = ap (λ u. u.rate) unit in
    let inside : c.loop-k.k < stations s = omega (arith, c.loop-k-test.true, c.len-k-end.ensures.number) in
    let few : c.from.result ≤ 200 = omega (arith, c.from.ensures, here, place_le_sum (stations s) (crews_at s) c.loop-k.k inside, c.requires.few) in
    let rate : c.from-in-loop-k.result ≤ 2 ^ 32 = omega (arith, c.from-in-loop-k.ensures) in
    let next : c.loop-k.service + c.from.result * c.from-in-loop-k.result
    ≡ sum_below (suc c.loop-k.k) (λ k. crews_at s k * crew_service s k) =
    ap₂ (λ a b. a + b) c.loop-k.invariant.sum (ap₂ (λ a b. a * b) (c.from.ensures ∙ sym here) (c.from-in-loop-k.ensures ∙ sym served)) in
    let e : suc c.loop-k.k ≡ c.loop-k.k + 1 = omega arith in
    record {
      sum = next ∙ ap (λ n. sum_below n (λ k. crews_at s k * crew_service s k)) e;
      small = omega (arith, mul-le c.from.result c.from-in-loop-k.result 200 (2 ^ 32) few rate, c.loop-k.invariant.small);
    }

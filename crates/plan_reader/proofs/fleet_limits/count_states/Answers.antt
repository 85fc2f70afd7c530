use Rattle.std.proofs.Common.{◌≡◌, ◌+◌, ◌*◌, ◌≤◌, suc, ap, ap₂, arith, sym, ◌∙◌}
use Rattle.std.proofs.lemmas.Option.{get_or_from_slice_get}
use Rattle.crew_stations.specs.Stations.{StationPlan, crews_at, stations, stride_of}
use Rattle.plan_reader.proofs.StateCounts.{fleet_stride_small}
use Rattle.plan_reader.proofs.fleet_limits.count_states.Goals as goal

pub overflow_mul-states : goal.overflow_mul-states
overflow_mul-states c =
    let s : StationPlan = record { parts = c.args.parts.now; crews = c.args.crews.now } in
    let here : crews_at s c.loop-k.k ≡ c.get.result.now = get_or_from_slice_get s.crews c.loop-k.k c.get.result.now 0 c.get.ensures in
    let next : c.loop-k.states * (c.from.result + 1) ≡ stride_of s (suc c.loop-k.k) =
    ap₂ (λ a b. a * (b + 1)) c.loop-k.invariant (c.from.ensures ∙ sym here) in
    let inside : suc c.loop-k.k ≤ stations s = omega (arith, c.loop-k-test.true, c.len-k-end.ensures.number) in
    let most : stations s ≤ 12 = omega (arith, c.len-k-end.ensures.number, c.len-k-end.ensures.most) in
    omega (arith, next, fleet_stride_small s (suc c.loop-k.k) inside most c.requires.few)

pub loop-k-preserved : goal.loop-k-preserved
loop-k-preserved c =
    let s : StationPlan = record { parts = c.args.parts.now; crews = c.args.crews.now } in
    let here : crews_at s c.loop-k.k ≡ c.get.result.now = get_or_from_slice_get s.crews c.loop-k.k c.get.result.now 0 c.get.ensures in
    let next : c.loop-k.states * (c.from.result + 1) ≡ stride_of s (suc c.loop-k.k) =
    ap₂ (λ a b. a * (b + 1)) c.loop-k.invariant (c.from.ensures ∙ sym here) in
    let e : suc c.loop-k.k ≡ c.loop-k.k + 1 = omega arith in
    next ∙ ap (stride_of s) e

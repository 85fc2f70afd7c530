use Rattle.std.proofs.Common.{◌≡◌, ℕ, List, ◌++◌, length, map, sym, ap, subst, ◌∙◌, arith}
use Rattle.std.specs.List.{range_with_len}
use Rattle.fixed_interval.specs.WeightList.{EnclosesAll}
use Rattle.hyper_model.specs.declared.kinds.Line.TheVariants as line
use Rattle.hyper_model.specs.Plans.{all_calls}
use Rattle.hyper_model.specs.Solutions.{mass_in}
use Rattle.crew_stations.specs.Standing.{state_mass}
use Rattle.crew_stations.specs.Stations.{crews_at, fleet_service, stations, states}
use Rattle.crew_stations.proofs.Balance.{states_balance}
use Rattle.crew_stations.proofs.Radix.{stride_positive}
use Rattle.queue_tail.specs.Tail.{IsTailOf}
use Rattle.station_flows.specs.CertifiedStates.{GainsWaiting, tail_masses, weights_between}
use Rattle.station_flows.proofs.Enclosing.{count, states_enclose, tail_by_place, waiting_count, widest_weights}
use Rattle.station_flows.proofs.weighing.weigh_states.Goals as goal

pub push_waiting-requires-clause-some : goal.push_waiting-requires-clause-some
push_waiting-requires-clause-some c =
    let s = c.args.flows.now.numbers in
    let low = mass_in c.bound_solutions-certified.new.low in
    let high = mass_in c.bound_solutions-certified.new.high in
    let all = c.bound_solutions-certified.ensures.ordered.low_masses.one_each in
    let items : c.push_states.new.weights.items ≡ weights_between low high (states s) =
    c.push_states.ensures.items ∙ ap (λ n. weights_between low high n) all in
    omega (arith, ap (λ list. length list) items, count s low high, stride_positive (crews_at s) (stations s))

pub returns-clause-widest : goal.returns-clause-widest
returns-clause-widest c none =
    let s = c.args.flows.now.numbers in
    let low = mass_in c.bound_solutions-certified.new.low in
    let high = mass_in c.bound_solutions-certified.new.high in
    let all = c.bound_solutions-certified.ensures.ordered.low_masses.one_each in
    let items : c.push_states.new.weights.items ≡ weights_between low high (states s) =
    c.push_states.ensures.items ∙ ap (λ n. weights_between low high n) all in
    record {
      before = c.push_states.new.weights.items;
      states = items ∙ widest_weights s low high (c.bound_solutions-certified.ensures.widest none);
      waiting = subst (λ f. GainsWaiting f.parts.line f c.push_states.new.weights.items c.push_waiting.new.weights.items)
          c.fleet.ensures.fleet c.push_waiting.ensures.items;
    }

pub returns-clause-one_each : goal.returns-clause-one_each
returns-clause-one_each c =
    let s = c.args.flows.now.numbers in
    let low = mass_in c.bound_solutions-certified.new.low in
    let high = mass_in c.bound_solutions-certified.new.high in
    let all = c.bound_solutions-certified.ensures.ordered.low_masses.one_each in
    let items : c.push_states.new.weights.items ≡ weights_between low high (states s) =
    c.push_states.ensures.items ∙ ap (λ n. weights_between low high n) all in
    let gains = subst (λ f. GainsWaiting f.parts.line f c.push_states.new.weights.items c.push_waiting.new.weights.items)
    c.fleet.ensures.fleet c.push_waiting.ensures.items in
    waiting_count s.parts.line s c.push_states.new.weights.items c.push_waiting.new.weights.items gains
    (ap (λ list. length list) items ∙ count s low high)

pub returns-clause-encloses : goal.returns-clause-encloses
returns-clause-encloses c most p station a t xs z e =
    let s = c.args.flows.now.numbers in
    let low = mass_in c.bound_solutions-certified.new.low in
    let high = mass_in c.bound_solutions-certified.new.high in
    let old = c.push_states.new.weights.items in
    let new = c.push_waiting.new.weights.items in
    let y = state_mass p s station (mass_in xs) in
    let all = c.bound_solutions-certified.ensures.ordered.low_masses.one_each in
    let items : old ≡ weights_between low high (states s) =
    c.push_states.ensures.items ∙ ap (λ n. weights_between low high n) all in
    let encloses : (masses : List ℕ) (w : ℕ)
    → (s.parts.line ≡ line.Infinite → IsTailOf (all_calls s.parts) (fleet_service s) masses w)
    → EnclosesAll old masses → EnclosesAll new (masses ++ tail_masses s.parts.line w) =
    subst (λ f. (masses : List ℕ) (w : ℕ)
    → (f.parts.line ≡ line.Infinite → IsTailOf (all_calls f.parts) (fleet_service f) masses w)
    → EnclosesAll old masses → EnclosesAll new (masses ++ tail_masses f.parts.line w))
    c.fleet.ensures.fleet c.push_waiting.ensures.encloses in
    encloses (map y (range_with_len 0 (states s))) z (tail_by_place s most p station a t xs z e)
    (subst (λ list. EnclosesAll list (map y (range_with_len 0 (states s)))) (sym items)
    (states_enclose s low high c.bound_solutions-certified.ensures.bounds y (states_balance most p s station a t xs z e).table))

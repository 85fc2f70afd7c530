-- The masses of the states of a solution over the words are a solution over the states, and so one exists.
use Rattle.std.proofs.Common.{◌≡◌, ℕ, ◌*◌, ◌<◌, List, sym, ap, subst, ◌∙◌, arith}
use Rattle.std.proofs.lemmas.List.FromFn.{length-map-range_with_len}
use Rattle.hyper_model.specs.declared.kinds.Line.{Line}
use Rattle.hyper_model.specs.declared.kinds.Line.TheVariants as line
use Rattle.hyper_model.specs.declared.parts.PlanParts.{PlanParts}
use Rattle.hyper_model.specs.Plans.{all_calls, IsAcceptedUpTo}
use Rattle.hyper_model.specs.Solutions.{mass_in, IsTail}
use Rattle.hyper_model.proofs.Chains.{listed, listed_at, solves_alike}
use Rattle.hyper_model.proofs.PlanLaws.{has_solution}
use Rattle.crew_stations.specs.Expanded.{station_of, expanded}
use Rattle.crew_stations.specs.FleetLaws.{HoldsForFleets}
use Rattle.crew_stations.specs.Laws.{HoldsAtStations, StatesBalance}
use Rattle.crew_stations.specs.Spreads.{HasStateSolution, IsStateChainSolvable}
use Rattle.crew_stations.specs.Standing.{IsStationed, state_mass}
use Rattle.crew_stations.specs.Stations.{StationPlan, states, full_state, state_table, IsStateTail, SolvesStates}
use Rattle.crew_stations.proofs.Expanding.{accepted, stationed}
use Rattle.crew_stations.proofs.Lumped.{table_balance}
use Rattle.crew_stations.proofs.Parts.{states_full, same_calls, full_mass}
use Rattle.crew_stations.proofs.Ratios.{spare_service}

tail_is : {most : ℕ} (p : PlanParts) (s : StationPlan) (station : ℕ → ℕ) → IsAcceptedUpTo most p
    → IsStationed p s station → (xs : List ℕ) (z : ℕ) (l : Line) → IsTail l p xs z
    → IsStateTail l s (state_mass p s station (mass_in xs)) z
tail_is p s station a t xs z line.Zero e = e
tail_is p s station a t xs z line.Infinite e =
    ap (λ c. c * z) (sym (spare_service p s station t a (mass_in xs) z))
    ∙ e
    ∙ ap (λ c. all_calls p * c) (full_mass p s station t (mass_in xs))
    ∙ ap (λ c. c * state_mass p s station (mass_in xs) (full_state s)) (same_calls p s station t)

pub states_balance : HoldsAtStations StatesBalance
states_balance most p s station a t xs z e = record {
  table = table_balance p s station a t xs e.words;
  tail = subst (λ l. IsStateTail l s (state_mass p s station (mass_in xs)) z) t.line
      (tail_is p s station a t xs z p.line e.tail);
}

-- masses that are the same at each state
tail_alike : (s : StationPlan) (x y : ℕ → ℕ) (z : ℕ) (l : Line) → y (full_state s) ≡ x (full_state s)
    → IsStateTail l s x z → IsStateTail l s y z
tail_alike s x y z line.Zero same e = e
tail_alike s x y z line.Infinite same e = e ∙ ap (λ c. all_calls s.parts * c) (sym same)

listed_solution : (s : StationPlan) (y : ℕ → ℕ) (z : ℕ) → full_state s < states s → SolvesStates s y z → HasStateSolution s
listed_solution s y z inside e = record {
  masses = listed (states s) y;
  waiting = z;
  one_each = length-map-range_with_len y 0 (states s);
  solves = record {
    table = solves_alike (states s) (state_table s) y (mass_in (listed (states s) y)) (listed_at (states s) y) e.table;
    tail = tail_alike s y (mass_in (listed (states s) y)) z s.parts.line
        (listed_at (states s) y (full_state s) inside) e.tail;
  };
}

pub chain_solvable : HoldsForFleets IsStateChainSolvable
chain_solvable most s a =
    let words = has_solution (expanded s) (accepted s a) in
    listed_solution s (state_mass (expanded s) s (station_of s) (mass_in words.masses)) words.waiting
    (omega (arith, states_full (expanded s) s (station_of s) (stationed s a)))
    (states_balance most (expanded s) s (station_of s) (accepted s a) (stationed s a) words.masses words.waiting words.solves)

-- The denominators of the measures of the states are positive in every solution.
use Rattle.std.proofs.Common.{◌≡◌, ℕ, zero, suc, ◌-◌, ◌*◌, ◌<◌, true, false, List, cond, eqb, refl, ap, ◌∙◌, arith}
use Rattle.std.specs.Prelude.{◌==◌}
use Rattle.std.proofs.lemmas.Bool.{eqb-false}
use Rattle.std.proofs.Math.Nat.{mul-pos}
use Rattle.hyper_model.specs.declared.kinds.Line.{Line}
use Rattle.hyper_model.specs.declared.kinds.Line.TheVariants as line
use Rattle.hyper_model.specs.declared.kinds.Measure.{Measure}
use Rattle.hyper_model.specs.declared.kinds.Measure.TheVariants as measure
use Rattle.hyper_model.specs.declared.parts.PlanParts.{PlanParts}
use Rattle.hyper_model.specs.Measures.{dispatch_flow, dispatch_flow_by, is_without, IsInRange}
use Rattle.hyper_model.specs.Plans.{units, atoms, all_calls, district_calls, split, IsAcceptedUpTo}
use Rattle.hyper_model.specs.Solutions.{mass_in, IsSolution}
use Rattle.hyper_model.specs.Sums.{sum_below}
use Rattle.hyper_model.proofs.Masses.{mass_positive, base_positive, service_total_positive, dispatched_positive, dispatched_by_positive, dispatched_all_positive, district_atom}
use Rattle.hyper_model.proofs.PlanLaws.{stable_of}
use Rattle.hyper_model.proofs.Sums.{on_test, place_le_sum, positive_place}
use Rattle.crew_stations.specs.CrewMeasures.{is_home, home_flow}
use Rattle.crew_stations.specs.Expanded.{station_of, expanded}
use Rattle.crew_stations.specs.FleetLaws.{HoldsOfCrews, HavePositiveCrews, HavePositiveStates}
use Rattle.crew_stations.specs.Standing.{IsStationed, state_mass}
use Rattle.crew_stations.specs.StateMeasures.{total, answerable, flow_by, flow_inside, loss_of, delay_of, queue_of, wait_of, state_measure}
use Rattle.crew_stations.specs.Stations.{StationPlan, stations, crews_at, fleet_service}
use Rattle.crew_stations.proofs.Expanding.{accepted, stationed}
use Rattle.crew_stations.proofs.Parts.{same_calls, same_service, same_mass, base_is, flow_by_is}
use Rattle.crew_stations.proofs.Ratios.{multiple_of, by_stations, home_is, inside_is, all_flows, spare_service}

-- a positive product has positive factors
pub second_positive : (g d : ℕ) → 0 < g * d → 0 < d
second_positive g zero h = absurd (omega arith)
second_positive g (suc d) h = omega arith

module _ {most : ℕ} (p : PlanParts) (s : StationPlan) (station : ℕ → ℕ) (t : IsStationed p s station)
    (a : IsAcceptedUpTo most p) (some : (k : ℕ) → k < stations s → 0 < crews_at s k)
    (xs : List ℕ) (z : ℕ) (e : IsSolution p xs z) where
  abbrev y : ℕ → ℕ
  y = state_mass p s station (mass_in xs)

  whole : 0 < total s y z
  whole = omega (arith, mass_positive p xs z e, same_mass p s station t (mass_in xs) z)

  some_answered : 0 < answerable s y z
  some_answered = omega (arith, base_positive p a xs z e, base_is p s station t (mass_in xs) z)

  calls : 0 < all_calls s.parts
  calls = omega (arith, a.atoms.calls.low, same_calls p s station t)

  service : 0 < fleet_service s
  service = omega (arith, service_total_positive p a, same_service p s station t)

  calls_answered : 0 < all_calls s.parts * answerable s y z
  calls_answered = mul-pos calls some_answered

  a_crew : (k : ℕ) → k < stations s → (n : ℕ) × (n < units p) × (eqb (station n) k ≡ true)
  a_crew k l =
      let n = positive_place (units p) (λ i. cond {A = ℕ} (eqb (station i) k) 1 0) (omega (arith, some k l, t.crews k l)) in
      on_test (eqb (station n.0) k)
      (λ yes. (n.0, n.1, yes))
      (λ no. absurd (let none = ap {B = ℕ} (λ c. cond c 1 0) no in omega (arith, none, n.2)))

  some_flow : (k : ℕ) → k < stations s → 0 < flow_by s y z k
  some_flow k l =
      let n = a_crew k l in
      second_positive (split p) (flow_by s y z k)
      (omega (
        arith,
        flow_by_is p s station t (mass_in xs) a z k l,
        dispatched_by_positive p a xs z e n.0 n.1,
        ap (λ c. cond c (dispatch_flow_by p (mass_in xs) z n.0) 0) n.2,
        place_le_sum (units p) (λ i. cond (eqb (station i) k) (dispatch_flow_by p (mass_in xs) z i) 0) n.0 n.1,
      ))

  all_flow : 0 < sum_below (stations s) (flow_by s y z)
  all_flow =
      second_positive (split p) (sum_below (stations s) (flow_by s y z))
      (omega (arith, all_flows p s station t a (mass_in xs) z, dispatched_all_positive p a xs z e))

  -- a district with calls has an atom with calls, which the first unit answers too
  district_flow : (k : ℕ) → 0 < district_calls s.parts k → 0 < sum_below (stations s) (λ m. flow_inside s y z m k)
  district_flow k h =
      let j = district_atom s.parts k h in
      let l : j.0 < atoms p = omega (arith, j.1, t.same_atoms) in
      let home : is_home p station k j.0 ≡ true = home_is p s station t a (mass_in xs) z k j.0 l ∙ j.2 in
      second_positive (split p) (sum_below (stations s) (λ m. flow_inside s y z m k))
      (omega (
        arith,
        by_stations p s station t a (mass_in xs) z (λ n. home_flow p station (mass_in xs) z n k)
            (λ m. flow_inside s y z m k) (λ m g. inside_is p s station t a (mass_in xs) z m k g),
        dispatched_positive p a xs z e 0 j.0 a.units.number.low l (omega (arith, j.3, t.calls j.0 l)),
        ap (λ c. cond c (dispatch_flow p (mass_in xs) z 0 j.0) 0) home,
        place_le_sum (atoms p) (λ i. cond (is_home p station k i) (dispatch_flow p (mass_in xs) z 0 i) 0) j.0 l,
        place_le_sum (units p) (λ n. home_flow p station (mass_in xs) z n k) 0 a.units.number.low,
      ))

  of_line : (l : Line) → s.parts.line ≡ l
      → (0 < (loss_of l s y z).denominator) × (0 < (delay_of l s y z).denominator)
      × (0 < (queue_of l s y z).denominator) × (0 < (wait_of l s y z).denominator)
  of_line line.Zero q = (whole, omega arith, omega arith, omega arith)
  of_line line.Infinite q =
      let idle : 0 < fleet_service s - all_calls s.parts =
      let more = stable_of p a (t.line ∙ q) in omega (arith, more, spare_service p s station t a (mass_in xs) z) in
      let both = mul-pos whole idle in
      (omega arith, whole, both, mul-pos both calls)

  some_calls : (k : ℕ) → (district_calls s.parts k == 0) ≡ false → 0 < district_calls s.parts k
  some_calls k q = let ne = eqb-false (district_calls s.parts k) 0 q in omega (arith, ne)

  pub state_positive : (m : Measure) → IsInRange s.parts m → is_without s.parts m ≡ false
      → 0 < (state_measure s y z m).denominator
  state_positive measure.Loss r v = (of_line s.parts.line refl).0
  state_positive measure.Delay r v = (of_line s.parts.line refl).1
  state_positive measure.Queue r v = (of_line s.parts.line refl).2
  state_positive measure.Wait r v = (of_line s.parts.line refl).3
  state_positive (measure.Workload k) r v = mul-pos (some k r) whole
  state_positive (measure.Dispatch k j) r v = mul-pos (mul-pos calls service) some_answered
  state_positive measure.Interdistrict r v = all_flow
  state_positive (measure.InterdistrictUnit k) r v = some_flow k r
  state_positive (measure.InterdistrictDistrict k) r v = district_flow k (some_calls k v)
  state_positive measure.Travel r v = omega (arith, mul-pos calls calls_answered)
  state_positive (measure.TravelAtom j) r v = omega (arith, calls_answered)
  state_positive (measure.TravelUnit k) r v = omega (arith, mul-pos calls (some_flow k r))
  state_positive (measure.TravelDistrict k) r v = omega (arith, mul-pos calls_answered (some_calls k v))

pub positive_states : HoldsOfCrews HavePositiveStates
positive_states most s a xs z e =
    state_positive (expanded s) s (station_of s) (stationed s a) (accepted s a) a.some xs z e

pub positive_crews : HoldsOfCrews HavePositiveCrews
positive_crews most s a xs z e m r v =
    let is = multiple_of (expanded s) s (station_of s) (stationed s a) (accepted s a) (mass_in xs) z m r in
    omega (arith, is.below, mul-pos is.positive (positive_states most s a xs z e m r v))

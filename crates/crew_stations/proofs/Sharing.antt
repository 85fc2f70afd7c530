-- The crews of a station share its measures equally.
use Rattle.std.proofs.Common.{◌≡◌, ℕ, ◌+◌, ◌*◌, ◌<◌, List, cond, eqb, eq-eqb, refl, sym, ap, ◌∙◌, arith}
use Rattle.hyper_model.specs.declared.kinds.Measure.TheVariants as measure
use Rattle.hyper_model.specs.declared.parts.PlanParts.{PlanParts}
use Rattle.hyper_model.specs.Laws.{IsSameRatio}
use Rattle.hyper_model.specs.Measures.{Ratio, queued_mass, base, taken_mass, dispatch_flow, dispatch_flow_by, mean_travel, travel_among_calls, travel_flow, measure_of}
use Rattle.hyper_model.specs.Plans.{units, atoms, service_of, calls_of, all_calls, all_service, split, IsAcceptedUpTo}
use Rattle.hyper_model.specs.Solutions.{mass_in, SolvesWords}
use Rattle.hyper_model.proofs.Sums.{sum-same, place_le_sum, same_factor}
use Rattle.crew_stations.specs.CrewMeasures.{IsMultiple, together}
use Rattle.crew_stations.specs.Laws.{HoldsAtStations, CrewsShareWorkloads, CrewsShareTravel, CrewsShareDispatches}
use Rattle.crew_stations.specs.Lumps.{class_sum}
use Rattle.crew_stations.specs.Standing.{IsStationed, state_mass}
use Rattle.crew_stations.specs.StateMeasures.{answerable, answer_flow, state_measure}
use Rattle.crew_stations.specs.Stations.{StationPlan, crews_at, crew_service, fleet_service}
use Rattle.crew_stations.proofs.Lumping.{class_same, class_times}
use Rattle.crew_stations.proofs.Parts.{same_calls, same_service, base_is, flow_is, mean_is}
use Rattle.crew_stations.proofs.Ratios.{multiple_of}
use Rattle.crew_stations.proofs.Swapping.{same_busy, same_taken, crews_alike}

module _ {most : ℕ} (p : PlanParts) (s : StationPlan) (station : ℕ → ℕ) (t : IsStationed p s station)
    (accepted : IsAcceptedUpTo most p) where
  -- all crews of a station together have what one has, times their number
  by_number : (f : ℕ → ℕ) (n : ℕ) → n < units p → ((m : ℕ) → m < units p → station m ≡ station n → f m ≡ f n)
      → class_sum (units p) station f (station n) ≡ crews_at s (station n) * f n
  by_number f n l same =
      class_same (units p) station f (λ m. 1 * f n) (station n) (λ m h e. omega (arith, same m h e))
      ∙ class_times (units p) station (f n) (λ m. 1) (station n)
      ∙ ap (λ c. c * f n) (t.crews (station n) (t.inside n l))

  some_crew : (n : ℕ) → n < units p → 0 < crews_at s (station n)
  some_crew n l =
      omega (
        arith,
        t.crews (station n) (t.inside n l),
        ap {B = ℕ} (λ c. cond c 1 0) (eq-eqb (station n) (station n) refl),
        place_le_sum (units p) (λ m. cond (eqb (station m) (station n)) 1 0) n l,
      )

  -- so a crew has the ratio of all of them
  one_of_all : (ratio : ℕ → Ratio) (of_state : Ratio) (n : ℕ) → n < units p
      → ((m : ℕ) → m < units p → station m ≡ station n → (ratio m).numerator ≡ (ratio n).numerator)
      → ((m : ℕ) → m < units p → station m ≡ station n → (ratio m).denominator ≡ (ratio n).denominator)
      → IsMultiple (together p station ratio (station n)) of_state
      → IsSameRatio (ratio n) of_state
  one_of_all ratio of_state n l tops bottoms is =
      same_factor (crews_at s (station n)) ((ratio n).numerator * of_state.denominator)
      (of_state.numerator * (ratio n).denominator) (some_crew n l)
      (omega (
        arith,
        ap (λ c. c * of_state.denominator) (sym (by_number (λ m. (ratio m).numerator) n l tops) ∙ is.above),
        ap (λ c. of_state.numerator * c) (sym (by_number (λ m. (ratio m).denominator) n l bottoms) ∙ is.below),
      ))

  module _ (xs : List ℕ) (z : ℕ) (e : SolvesWords p xs) where
    taken_same : (n m j : ℕ) → n < units p → m < units p → station m ≡ station n → j < atoms p
        → taken_mass p (mass_in xs) m j ≡ taken_mass p (mass_in xs) n j
    taken_same n m j l h q g =
        same_taken m n p s station t h l q (mass_in xs) j g
        (λ w i. crews_alike m n p s station t h l q accepted xs e w i)

    service_same : (n m : ℕ) → n < units p → m < units p → station m ≡ station n → service_of p m ≡ service_of p n
    service_same n m l h q = t.service m h ∙ ap (crew_service s) q ∙ sym (t.service n l)

    flow_same : (n m j : ℕ) → n < units p → m < units p → station m ≡ station n → j < atoms p
        → dispatch_flow p (mass_in xs) z m j ≡ dispatch_flow p (mass_in xs) z n j
    flow_same n m j l h q g =
        ap (λ c. calls_of p j * (all_service p * c + split p * service_of p m * queued_mass p (mass_in xs) z))
        (taken_same n m j l h q g)
        ∙ ap (λ c. calls_of p j
        * (all_service p * taken_mass p (mass_in xs) n j + split p * c * queued_mass p (mass_in xs) z))
        (service_same n m l h q)

    by_same : (n m : ℕ) → n < units p → m < units p → station m ≡ station n
        → dispatch_flow_by p (mass_in xs) z m ≡ dispatch_flow_by p (mass_in xs) z n
    by_same n m l h q =
        sum-same (atoms p) (dispatch_flow p (mass_in xs) z m) (dispatch_flow p (mass_in xs) z n)
        (λ j g. flow_same n m j l h q g)

    way_same : (n m : ℕ) → n < units p → m < units p → station m ≡ station n
        → travel_flow p (mass_in xs) m ≡ travel_flow p (mass_in xs) n
    way_same n m l h q =
        sum-same (atoms p) (λ j. calls_of p j * taken_mass p (mass_in xs) m j * mean_travel p m j)
        (λ j. calls_of p j * taken_mass p (mass_in xs) n j * mean_travel p n j)
        (λ j g.
        ap (λ c. calls_of p j * c * mean_travel p m j) (taken_same n m j l h q g)
        ∙ ap (λ c. calls_of p j * taken_mass p (mass_in xs) n j * c)
        (mean_is p s station t (mass_in xs) accepted m j h
        ∙ ap (λ k. mean_travel s.parts k j) q
        ∙ sym (mean_is p s station t (mass_in xs) accepted n j l)))

    workload_shared : (n : ℕ) → n < units p
        → IsSameRatio (measure_of p (mass_in xs) z (measure.Workload n))
        (state_measure s (state_mass p s station (mass_in xs)) z (measure.Workload (station n)))
    workload_shared n l =
        one_of_all (λ m. measure_of p (mass_in xs) z (measure.Workload m))
        (state_measure s (state_mass p s station (mass_in xs)) z (measure.Workload (station n))) n l
        (λ m h q. same_busy m n p s station t h l q (mass_in xs) z
        (λ w i. crews_alike m n p s station t h l q accepted xs e w i))
        (λ m h q. refl)
        (multiple_of p s station t accepted (mass_in xs) z (measure.Workload (station n)) (t.inside n l))

    travel_shared : (n : ℕ) → n < units p
        → IsSameRatio (measure_of p (mass_in xs) z (measure.TravelUnit n))
        (state_measure s (state_mass p s station (mass_in xs)) z (measure.TravelUnit (station n)))
    travel_shared n l =
        one_of_all (λ m. measure_of p (mass_in xs) z (measure.TravelUnit m))
        (state_measure s (state_mass p s station (mass_in xs)) z (measure.TravelUnit (station n))) n l
        (λ m h q.
        ap (λ c. all_calls p * all_service p * c
        + 1000 * split p * service_of p m * queued_mass p (mass_in xs) z * travel_among_calls p) (way_same n m l h q)
        ∙ ap (λ c. all_calls p * all_service p * travel_flow p (mass_in xs) n
        + 1000 * split p * c * queued_mass p (mass_in xs) z * travel_among_calls p) (service_same n m l h q))
        (λ m h q. ap (λ c. 1000 * all_calls p * c) (by_same n m l h q))
        (multiple_of p s station t accepted (mass_in xs) z (measure.TravelUnit (station n)) (t.inside n l))

    dispatch_shared : (n j : ℕ) → n < units p → j < atoms p
        → dispatch_flow p (mass_in xs) z n j
        * (crews_at s (station n)
        * (all_calls s.parts * fleet_service s * answerable s (state_mass p s station (mass_in xs)) z))
        ≡ answer_flow s (state_mass p s station (mass_in xs)) z (station n) j
        * (all_calls p * all_service p * split p * base p (mass_in xs) z)
    dispatch_shared n j l g =
        let y : ℕ → ℕ = state_mass p s station (mass_in xs) in
        let crews = sym (by_number (λ m. dispatch_flow p (mass_in xs) z m j) n l (λ m h q. flow_same n m j l h q g))
        ∙ flow_is p s station t (mass_in xs) accepted z (station n) j (t.inside n l) g in
        omega (
          arith,
          ap (λ c. c * (all_calls s.parts * fleet_service s * answerable s y z)) crews,
          ap (λ c. answer_flow s y z (station n) j * (c * all_service p * split p * base p (mass_in xs) z))
              (same_calls p s station t),
          ap (λ c. answer_flow s y z (station n) j * (all_calls s.parts * c * split p * base p (mass_in xs) z))
              (same_service p s station t),
          ap (λ c. answer_flow s y z (station n) j * (all_calls s.parts * fleet_service s * split p * c))
              (base_is p s station t (mass_in xs) z),
        )

pub crews_share_workloads : HoldsAtStations CrewsShareWorkloads
crews_share_workloads most p s station a t xs z e n l = workload_shared p s station t a xs z e.words n l

pub crews_share_travel : HoldsAtStations CrewsShareTravel
crews_share_travel most p s station a t xs z e n l = travel_shared p s station t a xs z e.words n l

pub crews_share_dispatches : HoldsAtStations CrewsShareDispatches
crews_share_dispatches most p s station a t xs z e n j l g = dispatch_shared p s station t a xs z e.words n j l g

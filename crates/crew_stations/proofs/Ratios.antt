-- Each measure of the crews of a station is that of the masses of the states: numerator and denominator are those of the
-- states, times the factor of the words' rates.
use Rattle.std.proofs.Common.{◌≡◌, ℕ, ◌+◌, ◌-◌, ◌*◌, ◌<◌, ◌≤◌, Bool, true, false, cond, eqb, refl, sym, ap, subst, ◌∙◌, arith}
use Rattle.std.proofs.Math.Nat.{le_of_mul-le-mul_left, mul-le-mul_left}
use Rattle.hyper_model.specs.declared.kinds.Line.{Line}
use Rattle.hyper_model.specs.declared.kinds.Line.TheVariants as line
use Rattle.hyper_model.specs.declared.kinds.Measure.{Measure}
use Rattle.hyper_model.specs.declared.kinds.Measure.TheVariants as measure
use Rattle.hyper_model.specs.declared.parts.PlanParts.{PlanParts}
use Rattle.hyper_model.specs.Grid.{Grid, cell}
use Rattle.hyper_model.specs.Laws.{IsSameRatio}
use Rattle.hyper_model.specs.Measures.{ContainsRatio, scale_of, Ratio, zero_ratio, mass, queued_mass, base, taken_mass, dispatch_flow, dispatch_flow_by, mean_travel, travel_from_calls, travel_among_calls, travel_flow, travel_to, loss_on, delay_on, queue_on, wait_on, IsInRange}
use Rattle.hyper_model.specs.Plans.{units, atoms, service_of, calls_of, all_calls, all_service, is_inside, district_calls, travel, split, IsAcceptedUpTo}
use Rattle.hyper_model.specs.Solutions.{mass_in}
use Rattle.hyper_model.specs.Sums.{sum_below}
use Rattle.hyper_model.proofs.Takers.{split_positive}
use Rattle.hyper_model.proofs.Sums.{sum-same, sum-scaled, sum_none}
use Rattle.crew_stations.specs.Lumps.{class_sum}
use Rattle.crew_stations.specs.CrewMeasures.{IsMultiple, is_home, home_flow, away_flow, crew_measure}
use Rattle.crew_stations.specs.Laws.{HoldsAtStations, MeasuresAreOfStates, EndsCarryOver, EndsOfEqualRatios}
use Rattle.crew_stations.specs.Standing.{IsStationed, state_mass}
use Rattle.crew_stations.specs.StateMeasures.{total, queued, answerable, answered, answer_flow, flow_by, flow_inside, flow_outside, way_by, way_to, loss_of, delay_of, queue_of, wait_of, state_measure}
use Rattle.crew_stations.specs.Stations.{StationPlan, stations, crews_at, crew_service, fleet_service}
use Rattle.crew_stations.proofs.Lumping.{class_same, class_scaled, class_times, class_add, class_swap, class_total}
use Rattle.crew_stations.proofs.Parts.{same_calls, same_service, full_mass, same_mass, same_queued, queued_is, base_is, busy_is_of_states, taken_is, flow_is, flow_by_is, mean_is}

by_factor : (g : ℕ) (r s : Ratio) → 0 < g → r.numerator ≡ g * s.numerator → r.denominator ≡ g * s.denominator
    → IsMultiple r s
by_factor g r s pos top bottom = record { factor = g; positive = pos; above = top; below = bottom }

pub by_parts : (r s : Ratio) → r.numerator ≡ s.numerator → r.denominator ≡ s.denominator → IsMultiple r s
by_parts r s top bottom =
    record { factor = 1; positive = omega arith; above = omega (arith, top); below = omega (arith, bottom) }

-- a multiple is the same ratio
pub same_of_multiple : (r s : Ratio) → IsMultiple r s → IsSameRatio r s
same_of_multiple r s m =
    omega (arith, ap (λ a. a * s.denominator) m.above, ap (λ a. s.numerator * a) m.below)

-- one test before all of a class
class_if : (n : ℕ) (class : ℕ → ℕ) (b : Bool) (x : ℕ → ℕ) (a : ℕ)
    → class_sum n class (λ v. cond b (x v) 0) a ≡ cond b (class_sum n class x a) 0
class_if n class true x a = refl
class_if n class false x a = sum_none n (λ v. cond {A = ℕ} (eqb (class v) a) 0 0) (λ v l. nothing (eqb (class v) a))
  where
    nothing : (b : Bool) → cond {A = ℕ} b 0 0 ≡ 0
    nothing true = refl
    nothing false = refl

class_else : (n : ℕ) (class : ℕ → ℕ) (b : Bool) (x : ℕ → ℕ) (a : ℕ)
    → class_sum n class (λ v. cond b 0 (x v)) a ≡ cond b 0 (class_sum n class x a)
class_else n class true x a = class_if n class false x a
class_else n class false x a = refl

if_scaled : (b : Bool) (g r : ℕ) → cond b (g * r) 0 ≡ g * cond b r 0
if_scaled true g r = refl
if_scaled false g r = omega arith

else_scaled : (b : Bool) (g r : ℕ) → cond b 0 (g * r) ≡ g * cond b 0 r
else_scaled true g r = omega arith
else_scaled false g r = refl

module _ {most : ℕ} (p : PlanParts) (s : StationPlan) (station : ℕ → ℕ) (t : IsStationed p s station)
    (accepted : IsAcceptedUpTo most p) (x : ℕ → ℕ) (z : ℕ) where
  abbrev y : ℕ → ℕ
  y = state_mass p s station x

  -- sums over the units by stations
  pub by_stations : (f g : ℕ → ℕ) → ((k : ℕ) → k < stations s → class_sum (units p) station f k ≡ split p * g k)
      → sum_below (units p) f ≡ split p * sum_below (stations s) g
  by_stations f g h =
      sym (class_total (units p) station (stations s) t.inside f)
      ∙ sum-same (stations s) (class_sum (units p) station f) (λ k. split p * g k) h
      ∙ sum-scaled (stations s) (split p) g

  pub home_is : (k j : ℕ) → j < atoms p → is_home p station k j ≡ is_inside s.parts k j
  home_is k j h = ap (λ d. eqb d k) (t.districts j h)

  pub inside_is : (k m : ℕ) → k < stations s
      → class_sum (units p) station (λ n. home_flow p station x z n m) k ≡ split p * flow_inside s y z k m
  inside_is k m l =
      class_swap (units p) station (atoms p) (λ j n. cond (is_home p station m j) (dispatch_flow p x z n j) 0) k
      ∙ sum-same (atoms p)
      (λ j. class_sum (units p) station (λ n. cond (is_home p station m j) (dispatch_flow p x z n j) 0) k)
      (λ j. split p * cond (is_inside s.parts m j) (answer_flow s y z k j) 0)
      (λ j h.
      class_if (units p) station (is_home p station m j) (λ n. dispatch_flow p x z n j) k
      ∙ ap (λ c. cond c (class_sum (units p) station (λ n. dispatch_flow p x z n j) k) 0) (home_is m j h)
      ∙ ap (λ c. cond (is_inside s.parts m j) c 0) (flow_is p s station t x accepted z k j l h)
      ∙ if_scaled (is_inside s.parts m j) (split p) (answer_flow s y z k j))
      ∙ sum-scaled (atoms p) (split p) (λ j. cond (is_inside s.parts m j) (answer_flow s y z k j) 0)
      ∙ ap (λ n. split p * sum_below n (λ j. cond (is_inside s.parts m j) (answer_flow s y z k j) 0)) t.same_atoms

  outside_is : (k m : ℕ) → k < stations s
      → class_sum (units p) station (λ n. away_flow p station x z n m) k ≡ split p * flow_outside s y z k m
  outside_is k m l =
      class_swap (units p) station (atoms p) (λ j n. cond (is_home p station m j) 0 (dispatch_flow p x z n j)) k
      ∙ sum-same (atoms p)
      (λ j. class_sum (units p) station (λ n. cond (is_home p station m j) 0 (dispatch_flow p x z n j)) k)
      (λ j. split p * cond (is_inside s.parts m j) 0 (answer_flow s y z k j))
      (λ j h.
      class_else (units p) station (is_home p station m j) (λ n. dispatch_flow p x z n j) k
      ∙ ap (λ c. cond c 0 (class_sum (units p) station (λ n. dispatch_flow p x z n j) k)) (home_is m j h)
      ∙ ap (λ c. cond (is_inside s.parts m j) 0 c) (flow_is p s station t x accepted z k j l h)
      ∙ else_scaled (is_inside s.parts m j) (split p) (answer_flow s y z k j))
      ∙ sum-scaled (atoms p) (split p) (λ j. cond (is_inside s.parts m j) 0 (answer_flow s y z k j))
      ∙ ap (λ n. split p * sum_below n (λ j. cond (is_inside s.parts m j) 0 (answer_flow s y z k j))) t.same_atoms

  -- the travel of the crews of a station
  way_at : (k j : ℕ) → k < stations s → j < atoms p
      → class_sum (units p) station (λ n. taken_mass p x n j * mean_travel p n j) k
      ≡ split p * (answered s y k j * mean_travel s.parts k j)
  way_at k j l h =
      class_same (units p) station (λ n. taken_mass p x n j * mean_travel p n j)
      (λ n. taken_mass p x n j * mean_travel s.parts k j) k
      (λ n g e. ap (λ c. taken_mass p x n j * c)
      (mean_is p s station t x accepted n j g ∙ ap (λ m. mean_travel s.parts m j) e))
      ∙ class_times (units p) station (mean_travel s.parts k j) (λ n. taken_mass p x n j) k
      ∙ ap (λ c. c * mean_travel s.parts k j) (taken_is p s station t x accepted k j l h)
      ∙ omega arith

  way_is : (k : ℕ) → k < stations s → class_sum (units p) station (travel_flow p x) k ≡ split p * way_by s y k
  way_is k l =
      class_swap (units p) station (atoms p) (λ j n. calls_of p j * taken_mass p x n j * mean_travel p n j) k
      ∙ sum-same (atoms p)
      (λ j. class_sum (units p) station (λ n. calls_of p j * taken_mass p x n j * mean_travel p n j) k)
      (λ j. split p * (calls_of s.parts j * answered s y k j * mean_travel s.parts k j))
      (λ j h.
      class_same (units p) station (λ n. calls_of p j * taken_mass p x n j * mean_travel p n j)
      (λ n. calls_of p j * (taken_mass p x n j * mean_travel p n j)) k (λ n g e. omega arith)
      ∙ class_scaled (units p) station (calls_of p j) (λ n. taken_mass p x n j * mean_travel p n j) k
      ∙ ap (λ c. calls_of p j * c) (way_at k j l h)
      ∙ ap (λ c. c * (split p * (answered s y k j * mean_travel s.parts k j))) (t.calls j h)
      ∙ omega arith)
      ∙ sum-scaled (atoms p) (split p) (λ j. calls_of s.parts j * answered s y k j * mean_travel s.parts k j)
      ∙ ap (λ n. split p * sum_below n (λ j. calls_of s.parts j * answered s y k j * mean_travel s.parts k j)) t.same_atoms

  from_calls : (j : ℕ) → travel_from_calls p j ≡ travel_from_calls s.parts j
  from_calls j =
      sum-same (atoms p) (λ i. calls_of p i * travel p i j) (λ i. calls_of s.parts i * travel s.parts i j)
      (λ i h. ap (λ c. c * travel p i j) (t.calls i h)
      ∙ ap (λ (g : Grid). calls_of s.parts i * cell g i j) t.travel)
      ∙ ap (λ n. sum_below n (λ i. calls_of s.parts i * travel s.parts i j)) t.same_atoms

  among_calls : travel_among_calls p ≡ travel_among_calls s.parts
  among_calls =
      sum-same (atoms p) (λ j. calls_of p j * travel_from_calls p j) (λ j. calls_of s.parts j * travel_from_calls s.parts j)
      (λ j h. ap (λ c. c * travel_from_calls p j) (t.calls j h) ∙ ap (λ c. calls_of s.parts j * c) (from_calls j))
      ∙ ap (λ n. sum_below n (λ j. calls_of s.parts j * travel_from_calls s.parts j)) t.same_atoms

  way_to_is : (j : ℕ) → j < atoms p → travel_to p x z j ≡ split p * way_to s y z j
  way_to_is j h =
      omega (
        arith,
        ap (λ c. c * sum_below (units p) (λ n. taken_mass p x n j * mean_travel p n j)) (same_calls p s station t),
        ap (λ c. all_calls s.parts * c) (by_stations (λ n. taken_mass p x n j * mean_travel p n j)
            (λ k. answered s y k j * mean_travel s.parts k j) (λ k l. way_at k j l h)),
        ap (λ c. 1000 * split p * c * travel_from_calls p j) (queued_is p s station t x z),
        ap (λ c. 1000 * split p * queued s y z * c) (from_calls j),
      )

  -- the rates of all calls, times what is answered
  calls_and_base : all_calls p * split p * base p x z ≡ split p * (all_calls s.parts * answerable s y z)
  calls_and_base =
      ap (λ c. c * split p * base p x z) (same_calls p s station t)
      ∙ ap (λ c. all_calls s.parts * split p * c) (base_is p s station t x z)
      ∙ omega arith

  pub spare_service : all_service p - all_calls p ≡ fleet_service s - all_calls s.parts
  spare_service =
      ap (λ c. c - all_calls p) (same_service p s station t) ∙ ap (λ c. fleet_service s - c) (same_calls p s station t)

  loss_is : (l : Line) → IsMultiple (loss_on l p x z) (loss_of l s y z)
  loss_is line.Zero =
      by_parts (loss_on line.Zero p x z) (loss_of line.Zero s y z) (full_mass p s station t x)
      (same_mass p s station t x z)
  loss_is line.Infinite = by_parts zero_ratio zero_ratio refl refl

  delay_is : (l : Line) → IsMultiple (delay_on l p x z) (delay_of l s y z)
  delay_is line.Zero = by_parts zero_ratio zero_ratio refl refl
  delay_is line.Infinite =
      by_parts (delay_on line.Infinite p x z) (delay_of line.Infinite s y z) (same_queued p s station t x line.Infinite z)
      (same_mass p s station t x z)

  queue_is : (l : Line) → IsMultiple (queue_on l p x z) (queue_of l s y z)
  queue_is line.Zero = by_parts zero_ratio zero_ratio refl refl
  queue_is line.Infinite =
      by_parts (queue_on line.Infinite p x z) (queue_of line.Infinite s y z) (ap (λ c. z * c) (same_service p s station t))
      (ap (λ c. c * (all_service p - all_calls p)) (same_mass p s station t x z) ∙ ap (λ c. total s y z * c) spare_service)

  wait_is : (l : Line) → IsMultiple (wait_on l p x z) (wait_of l s y z)
  wait_is line.Zero = by_parts zero_ratio zero_ratio refl refl
  wait_is line.Infinite =
      by_parts (wait_on line.Infinite p x z) (wait_of line.Infinite s y z)
      (ap (λ c. c * z * all_service p) t.period ∙ ap (λ c. s.parts.period * z * c) (same_service p s station t))
      (ap (λ c. c * (all_service p - all_calls p) * all_calls p) (same_mass p s station t x z)
      ∙ ap (λ c. total s y z * c * all_calls p) spare_service
      ∙ ap (λ c. total s y z * (fleet_service s - all_calls s.parts) * c) (same_calls p s station t))

  pub all_flows : sum_below (units p) (dispatch_flow_by p x z) ≡ split p * sum_below (stations s) (flow_by s y z)
  all_flows = by_stations (dispatch_flow_by p x z) (flow_by s y z) (λ k l. flow_by_is p s station t x accepted z k l)

  pub multiple_of : (m : Measure) → IsInRange s.parts m → IsMultiple (crew_measure p station x z m) (state_measure s y z m)
  multiple_of measure.Loss r = subst (λ l. IsMultiple (loss_on p.line p x z) (loss_of l s y z)) t.line (loss_is p.line)
  multiple_of measure.Delay r = subst (λ l. IsMultiple (delay_on p.line p x z) (delay_of l s y z)) t.line (delay_is p.line)
  multiple_of measure.Queue r = subst (λ l. IsMultiple (queue_on p.line p x z) (queue_of l s y z)) t.line (queue_is p.line)
  multiple_of measure.Wait r = subst (λ l. IsMultiple (wait_on p.line p x z) (wait_of l s y z)) t.line (wait_is p.line)
  multiple_of (measure.Workload k) r =
      by_parts (crew_measure p station x z (measure.Workload k)) (state_measure s y z (measure.Workload k))
      (busy_is_of_states p s station t x z k r)
      (class_same (units p) station (λ n. mass p x z) (λ n. 1 * total s y z) k
      (λ n g e. omega (arith, same_mass p s station t x z))
      ∙ class_times (units p) station (total s y z) (λ n. 1) k
      ∙ ap (λ c. c * total s y z) (t.crews k r))
  multiple_of (measure.Dispatch k j) r =
      by_factor (split p) (crew_measure p station x z (measure.Dispatch k j)) (state_measure s y z (measure.Dispatch k j))
      (split_positive p)
      (flow_is p s station t x accepted z k j r.0 (omega (arith, r.1, t.same_atoms)))
      (omega (
        arith,
        ap (λ c. all_service p * c) calls_and_base,
        ap (λ c. c * (split p * (all_calls s.parts * answerable s y z))) (same_service p s station t),
      ))
  multiple_of measure.Interdistrict r =
      by_factor (split p) (crew_measure p station x z measure.Interdistrict) (state_measure s y z measure.Interdistrict)
      (split_positive p)
      (by_stations (λ n. away_flow p station x z n (station n)) (λ k. flow_outside s y z k k)
      (λ k l.
      class_same (units p) station (λ n. away_flow p station x z n (station n)) (λ n. away_flow p station x z n k) k
      (λ n g e. ap (λ m. away_flow p station x z n m) e)
      ∙ outside_is k k l))
      all_flows
  multiple_of (measure.InterdistrictUnit k) r =
      by_factor (split p) (crew_measure p station x z (measure.InterdistrictUnit k))
      (state_measure s y z (measure.InterdistrictUnit k)) (split_positive p)
      (outside_is k k r) (flow_by_is p s station t x accepted z k r)
  multiple_of (measure.InterdistrictDistrict k) r =
      by_factor (split p) (crew_measure p station x z (measure.InterdistrictDistrict k))
      (state_measure s y z (measure.InterdistrictDistrict k)) (split_positive p)
      (by_stations (λ n. cond (eqb (station n) k) 0 (home_flow p station x z n k))
      (λ m. cond (eqb m k) 0 (flow_inside s y z m k))
      (λ m l.
      class_same (units p) station (λ n. cond (eqb (station n) k) 0 (home_flow p station x z n k))
      (λ n. cond (eqb m k) 0 (home_flow p station x z n k)) m
      (λ n g e. ap (λ c. cond (eqb c k) 0 (home_flow p station x z n k)) e)
      ∙ class_else (units p) station (eqb m k) (λ n. home_flow p station x z n k) m
      ∙ ap (λ c. cond (eqb m k) 0 c) (inside_is m k l)
      ∙ else_scaled (eqb m k) (split p) (flow_inside s y z m k)))
      (by_stations (λ n. home_flow p station x z n k) (λ m. flow_inside s y z m k) (λ m l. inside_is m k l))
  multiple_of measure.Travel r =
      by_factor (split p) (crew_measure p station x z measure.Travel) (state_measure s y z measure.Travel)
      (split_positive p)
      (omega (
        arith,
        ap (λ c. c * sum_below (units p) (travel_flow p x)) (same_calls p s station t),
        ap (λ c. all_calls s.parts * c) (by_stations (travel_flow p x) (way_by s y) way_is),
        ap (λ c. 1000 * split p * c * travel_among_calls p) (queued_is p s station t x z),
        ap (λ c. 1000 * split p * queued s y z * c) among_calls,
      ))
      (omega (
        arith,
        ap (λ c. 1000 * all_calls p * c) calls_and_base,
        ap (λ c. 1000 * c * (split p * (all_calls s.parts * answerable s y z))) (same_calls p s station t),
      ))
  multiple_of (measure.TravelAtom j) r =
      by_factor (split p) (crew_measure p station x z (measure.TravelAtom j)) (state_measure s y z (measure.TravelAtom j))
      (split_positive p)
      (way_to_is j (omega (arith, r, t.same_atoms)))
      (omega (arith, ap (λ c. 1000 * c) calls_and_base))
  multiple_of (measure.TravelUnit k) r =
      by_factor (split p) (crew_measure p station x z (measure.TravelUnit k)) (state_measure s y z (measure.TravelUnit k))
      (split_positive p)
      (unit_way k r)
      (class_scaled (units p) station (1000 * all_calls p) (dispatch_flow_by p x z) k
      ∙ ap (λ c. 1000 * c * class_sum (units p) station (dispatch_flow_by p x z) k) (same_calls p s station t)
      ∙ ap (λ c. 1000 * all_calls s.parts * c) (flow_by_is p s station t x accepted z k r)
      ∙ omega arith)
    where
      unit_way : (k : ℕ) → k < stations s
          → class_sum (units p) station (λ n.
          all_calls p * all_service p * travel_flow p x n
          + 1000 * split p * service_of p n * queued_mass p x z * travel_among_calls p) k
          ≡ split p
          * (all_calls s.parts * fleet_service s * way_by s y k
          + 1000 * (crews_at s k * crew_service s k) * queued s y z * travel_among_calls s.parts)
      unit_way k l =
          class_add (units p) station (λ n. all_calls p * all_service p * travel_flow p x n)
          (λ n. 1000 * split p * service_of p n * queued_mass p x z * travel_among_calls p) k
          ∙ ap (λ c. c + class_sum (units p) station
          (λ n. 1000 * split p * service_of p n * queued_mass p x z * travel_among_calls p) k)
          (class_scaled (units p) station (all_calls p * all_service p) (travel_flow p x) k
          ∙ ap (λ c. c * all_service p * class_sum (units p) station (travel_flow p x) k) (same_calls p s station t)
          ∙ ap (λ c. all_calls s.parts * c * class_sum (units p) station (travel_flow p x) k) (same_service p s station t)
          ∙ ap (λ c. all_calls s.parts * fleet_service s * c) (way_is k l))
          ∙ ap (λ c. all_calls s.parts * fleet_service s * (split p * way_by s y k) + c)
          (class_same (units p) station
          (λ n. 1000 * split p * service_of p n * queued_mass p x z * travel_among_calls p)
          (λ n. 1 * (1000 * split p * crew_service s k * queued s y z * travel_among_calls s.parts)) k
          (λ n g e.
          ap (λ c. 1000 * split p * c * queued_mass p x z * travel_among_calls p)
          (t.service n g ∙ ap (λ m. crew_service s m) e)
          ∙ ap (λ c. 1000 * split p * crew_service s k * c * travel_among_calls p) (queued_is p s station t x z)
          ∙ ap (λ c. 1000 * split p * crew_service s k * queued s y z * c) among_calls
          ∙ omega arith)
          ∙ class_times (units p) station
          (1000 * split p * crew_service s k * queued s y z * travel_among_calls s.parts) (λ n. 1) k
          ∙ ap (λ c. c * (1000 * split p * crew_service s k * queued s y z * travel_among_calls s.parts)) (t.crews k l))
          ∙ omega arith
  multiple_of (measure.TravelDistrict k) r =
      by_factor (split p) (crew_measure p station x z (measure.TravelDistrict k))
      (state_measure s y z (measure.TravelDistrict k)) (split_positive p)
      (sum-same (atoms p) (λ j. cond (is_home p station k j) (calls_of p j * travel_to p x z j) 0)
      (λ j. split p * cond (is_inside s.parts k j) (calls_of s.parts j * way_to s y z j) 0)
      (λ j h.
      ap (λ c. cond c (calls_of p j * travel_to p x z j) 0) (home_is k j h)
      ∙ ap (λ c. cond (is_inside s.parts k j) (c * travel_to p x z j) 0) (t.calls j h)
      ∙ ap (λ c. cond (is_inside s.parts k j) (calls_of s.parts j * c) 0) (way_to_is j h)
      ∙ ap (λ c. cond (is_inside s.parts k j) c 0) (factor_first (calls_of s.parts j) (split p) (way_to s y z j))
      ∙ if_scaled (is_inside s.parts k j) (split p) (calls_of s.parts j * way_to s y z j))
      ∙ sum-scaled (atoms p) (split p) (λ j. cond (is_inside s.parts k j) (calls_of s.parts j * way_to s y z j) 0)
      ∙ ap (λ n. split p * sum_below n (λ j. cond (is_inside s.parts k j) (calls_of s.parts j * way_to s y z j) 0))
      t.same_atoms)
      (omega (
        arith,
        ap (λ c. 1000 * c * sum_below (atoms p) (λ j. cond (is_home p station k j) (calls_of p j) 0)) calls_and_base,
        ap (λ c. 1000 * (split p * (all_calls s.parts * answerable s y z)) * c) district_is,
      ))
    where
      factor_first : (a g r : ℕ) → a * (g * r) ≡ g * (a * r)
      factor_first a g r = omega arith

      district_is : sum_below (atoms p) (λ j. cond (is_home p station k j) (calls_of p j) 0) ≡ district_calls s.parts k
      district_is =
          sum-same (atoms p) (λ j. cond (is_home p station k j) (calls_of p j) 0)
          (λ j. cond (is_inside s.parts k j) (calls_of s.parts j) 0)
          (λ j h. ap (λ c. cond c (calls_of p j) 0) (home_is k j h)
          ∙ ap (λ c. cond (is_inside s.parts k j) c 0) (t.calls j h))
          ∙ ap (λ n. sum_below n (λ j. cond (is_inside s.parts k j) (calls_of s.parts j) 0)) t.same_atoms

pub same_measure : {most : ℕ} (p : PlanParts) (s : StationPlan) (station : ℕ → ℕ) → IsStationed p s station
    → IsAcceptedUpTo most p → (x : ℕ → ℕ) (z : ℕ) (m : Measure) → IsInRange s.parts m
    → IsSameRatio (crew_measure p station x z m) (state_measure s (state_mass p s station x) z m)
same_measure p s station t a x z m r =
    same_of_multiple (crew_measure p station x z m) (state_measure s (state_mass p s station x) z m)
    (multiple_of p s station t a x z m r)

pub measures_are_of_states : HoldsAtStations MeasuresAreOfStates
measures_are_of_states most p s station a t xs z e m r = multiple_of p s station t a (mass_in xs) z m r

-- ends of a ratio are ends of its multiples
multiple_contained : (lo hi scale : ℕ) (r q : Ratio) → IsMultiple r q → ContainsRatio lo hi scale q
    → ContainsRatio lo hi scale r
multiple_contained lo hi scale r q m c =
    let least : m.factor * (lo * q.denominator) ≤ m.factor * (scale * q.numerator) = mul-le-mul_left m.factor c.least in
    let most : m.factor * (scale * q.numerator) ≤ m.factor * (hi * q.denominator) = mul-le-mul_left m.factor c.most in
    record {
      least = omega (arith, least, ap (λ a. lo * a) m.below, ap (λ a. scale * a) m.above);
      most = omega (arith, most, ap (λ a. hi * a) m.below, ap (λ a. scale * a) m.above);
    }

pub ends_carry_over : HoldsAtStations EndsCarryOver
ends_carry_over most p s station a t xs z e m r lo hi c =
    multiple_contained lo hi (scale_of m) (crew_measure p station (mass_in xs) z m)
    (state_measure s (state_mass p s station (mass_in xs)) z m)
    (multiple_of p s station t a (mass_in xs) z m r) c

pub ends_of_equal : EndsOfEqualRatios
ends_of_equal lo hi scale q r pos same c =
    let low : r.denominator * (lo * q.denominator) ≤ r.denominator * (scale * q.numerator) =
    omega (arith, mul-le-mul_left q.denominator c.least, ap (λ a. scale * a) same) in
    let high : r.denominator * (scale * q.numerator) ≤ r.denominator * (hi * q.denominator) =
    omega (arith, mul-le-mul_left q.denominator c.most, ap (λ a. scale * a) same) in
    record { least = le_of_mul-le-mul_left low pos; most = le_of_mul-le-mul_left high pos }

-- For every solution that has these parts, each mean travel time lies between its ends.
use Rattle.std.proofs.Common.{◌≡◌, ℕ, ◌+◌, ◌*◌, ◌^◌, ◌<◌, cond, eqb, List, ◌++◌, All, refl, sym, ap, subst, ◌∙◌, arith}
use Rattle.std.specs.Prelude.{Option, None, Some}
use Rattle.std.proofs.lemmas.List.Elements.{All-cons, All-append}
use Rattle.fixed_interval.specs.Ends.{Encloses, scaled_ends}
use Rattle.fixed_interval.proofs.Rounding.{encloses_scaled}
use Rattle.hyper_model.specs.declared.kinds.Measure.TheVariants as measure
use Rattle.hyper_model.specs.declared.kinds.Enclosed.{Enclosed}
use Rattle.hyper_model.specs.declared.parts.PlanParts.{PlanParts}
use Rattle.hyper_model.specs.Sums.{sum_below}
use Rattle.hyper_model.specs.Plans.{units, atoms, service_of, calls_of, all_calls, all_service, district_calls, split}
use Rattle.hyper_model.specs.Solutions.{mass_in}
use Rattle.hyper_model.specs.Measures.{queued_mass, base, taken_mass, dispatch_flow_by, mean_travel, travel_from_calls, travel_to, measure_of, IsInRange, IsContained, AreContained}
use Rattle.hyper_model.proofs.Sums.{sum-scaled, choices_scaled}
use Rattle.hyper_model.proofs.Ranges.{all_range}
use Rattle.busy_words.specs.Algebra.{where_ends}
use Rattle.busy_words.proofs.Algebra.{encloses_total, encloses_where}
use Rattle.dispatch_fractions.specs.PartLists.{PartList, taken_by, help_of, waiting_on, HasParts}
use Rattle.dispatch_fractions.specs.Fractions.{HasEndsOnly}
use Rattle.dispatch_fractions.proofs.Contain.{found_where, absent_where}
use Rattle.travel_measures.specs.TravelEnds.{is_among, late_travel_ends, travel_to_calls, trip_ends, all_trip_ends, mean_ends, region_time_of, trips_to_ends, atom_ends, atom_time, atom_times_of, taken_ends, unit_ends, unit_time, unit_times_of, district_time, district_times_of, travel_times_of, longest_mean}
use Rattle.travel_measures.proofs.TimeEnds.{contains_time, late_is, mean_is, atom_is, unit_is}
use Rattle.travel_measures.proofs.Times.{trips_to_mass, trip_mass, calls_among, travel_made, atom_fits, district_fits, taken_calls, unit_fits, dispatched_made}

scaled_number : (u c t k : ℕ) → c * k * (u * t) ≡ u * (c * t * k)
scaled_number u c t k = omega arith

scaled_by_one : (u c t : ℕ) → c * (u * t) ≡ u * (c * t)
scaled_by_one u c t = omega arith

scaled_turned : (u t k : ℕ) → k * (u * t) ≡ u * (t * k)
scaled_turned u t k = omega arith

region_grouped : (c g b : ℕ) → 1000 * (c * c * g * b) ≡ 1000 * c * c * g * b
region_grouped c g b = omega arith

atom_grouped : (c g b : ℕ) → 1000 * (c * g * b) ≡ 1000 * c * g * b
atom_grouped c g b = omega arith

unit_grouped : (c v : ℕ) → 1000 * (c * v) ≡ 1000 * c * v
unit_grouped c v = omega arith

district_grouped : (c m g b : ℕ) → 1000 * (c * m * g * b) ≡ 1000 * c * g * b * m
district_grouped c m g b = omega arith

module _ (p : PlanParts) (xs : List ℕ) (z : ℕ) (parts : PartList) (h : HasParts p xs z parts) where
  abbrev shares : ℕ
  shares = split p * base p (mass_in xs) z

  late_holds : (district : Option ℕ)
      → Encloses (late_travel_ends p district) (travel_to_calls p district * 1 * 4096000) (all_calls p * 1)
  late_holds district = late_is (travel_to_calls p district) (all_calls p) h.accepted.atoms.calls.low

  -- what a unit travels at once to one atom, so many times
  part_holds : (n j k : ℕ) → n < units p → j < atoms p
      → Encloses (scaled_ends k (taken_by parts n j)) (k * (2 ^ 62 * taken_mass p (mass_in xs) n j)) shares
  part_holds n j k l i =
      encloses_scaled (taken_by parts n j) (scaled_ends k (taken_by parts n j)) k refl
      (2 ^ 62 * taken_mass p (mass_in xs) n j) shares (h.taken n j l i)

  trips_hold : (district : Option ℕ) (n : ℕ) → n < units p
      → Encloses (trip_ends p parts district n) (2 ^ 62 * trip_mass p (mass_in xs) district n) shares
  trips_hold district n l =
      subst (λ k. Encloses (trip_ends p parts district n) k shares)
      (choices_scaled (atoms p) (2 ^ 62) (is_among p district)
      (λ j. calls_of p j * taken_mass p (mass_in xs) n j * mean_travel p n j))
      (encloses_total (atoms p)
      (λ j. where_ends (is_among p district j) (scaled_ends (calls_of p j * mean_travel p n j) (taken_by parts n j)))
      (λ j. cond (is_among p district j) (2 ^ 62 * (calls_of p j * taken_mass p (mass_in xs) n j * mean_travel p n j)) 0) shares
      (λ j i. encloses_where (is_among p district j) (scaled_ends (calls_of p j * mean_travel p n j) (taken_by parts n j))
      (2 ^ 62 * (calls_of p j * taken_mass p (mass_in xs) n j * mean_travel p n j)) shares
      (λ on. subst (λ k. Encloses (scaled_ends (calls_of p j * mean_travel p n j) (taken_by parts n j)) k shares)
      (scaled_number (2 ^ 62) (calls_of p j) (taken_mass p (mass_in xs) n j) (mean_travel p n j))
      (part_holds n j (calls_of p j * mean_travel p n j) l i))))

  pub all_trips_hold : (district : Option ℕ)
      → Encloses (all_trip_ends p parts district)
      (2 ^ 62 * sum_below (units p) (trip_mass p (mass_in xs) district)) shares
  all_trips_hold district =
      subst (λ k. Encloses (all_trip_ends p parts district) k shares)
      (sum-scaled (units p) (2 ^ 62) (trip_mass p (mass_in xs) district))
      (encloses_total (units p) (trip_ends p parts district)
      (λ n. 2 ^ 62 * trip_mass p (mass_in xs) district n) shares (trips_hold district))

  mean_holds : (district : Option ℕ) (calls : ℕ) → calls ≡ calls_among p district
      → Encloses (mean_ends p parts district calls)
      (all_calls p * sum_below (units p) (trip_mass p (mass_in xs) district)
      + 1000 * split p * queued_mass p (mass_in xs) z * travel_to_calls p district)
      (all_calls p * calls * split p * base p (mass_in xs) z)
  mean_holds district calls same =
      mean_is (all_trip_ends p parts district) (waiting_on p.line parts.full) (late_travel_ends p district) (all_calls p) calls
      (split p) (base p (mass_in xs) z) (queued_mass p (mass_in xs) z) (travel_to_calls p district)
      (sum_below (units p) (trip_mass p (mass_in xs) district)) (longest_mean p) (all_trips_hold district)
      h.waiting (late_holds district)
      (rw same (district_fits p h.accepted (mass_in xs) z district))

  pub region_contained : IsContained p (mass_in xs) z (region_time_of p parts)
  region_contained = (
    refl,
    contains_time (mean_ends p parts None (all_calls p))
        (all_calls p * sum_below (units p) (trip_mass p (mass_in xs) None)
        + 1000 * split p * queued_mass p (mass_in xs) z * travel_to_calls p None)
        (all_calls p * all_calls p * split p * base p (mass_in xs) z) (measure_of p (mass_in xs) z measure.Travel) refl
        (region_grouped (all_calls p) (split p) (base p (mass_in xs) z)) (mean_holds None (all_calls p) refl),
  )

  trips_to_hold : (j : ℕ) → j < atoms p
      → Encloses (trips_to_ends p parts j) (2 ^ 62 * trips_to_mass p (mass_in xs) j) shares
  trips_to_hold j i =
      subst (λ k. Encloses (trips_to_ends p parts j) k shares)
      (sum-scaled (units p) (2 ^ 62) (λ n. taken_mass p (mass_in xs) n j * mean_travel p n j))
      (encloses_total (units p) (λ n. scaled_ends (mean_travel p n j) (taken_by parts n j))
      (λ n. 2 ^ 62 * (taken_mass p (mass_in xs) n j * mean_travel p n j)) shares
      (λ n l. subst (λ k. Encloses (scaled_ends (mean_travel p n j) (taken_by parts n j)) k shares)
      (scaled_turned (2 ^ 62) (taken_mass p (mass_in xs) n j) (mean_travel p n j)) (part_holds n j (mean_travel p n j) l i)))

  pub atom_contained : (j : ℕ) → j < atoms p → IsContained p (mass_in xs) z (atom_time p parts j)
  atom_contained j i = (
    refl,
    contains_time (atom_ends p parts j) (travel_to p (mass_in xs) z j)
        (all_calls p * split p * base p (mass_in xs) z) (measure_of p (mass_in xs) z (measure.TravelAtom j)) refl
        (atom_grouped (all_calls p) (split p) (base p (mass_in xs) z))
        (atom_is (trips_to_ends p parts j) (waiting_on p.line parts.full) (all_calls p) (split p) (base p (mass_in xs) z)
        (queued_mass p (mass_in xs) z) (travel_from_calls p j) (trips_to_mass p (mass_in xs) j) (longest_mean p)
        (trips_to_hold j i) h.waiting (atom_fits p h.accepted (mass_in xs) z j i)),
  )

  taken_holds : (n : ℕ) → n < units p
      → Encloses (taken_ends p parts n) (2 ^ 62 * taken_calls p (mass_in xs) n) shares
  taken_holds n l =
      subst (λ k. Encloses (taken_ends p parts n) k shares)
      (sum-scaled (atoms p) (2 ^ 62) (λ j. calls_of p j * taken_mass p (mass_in xs) n j))
      (encloses_total (atoms p) (λ j. scaled_ends (calls_of p j) (taken_by parts n j))
      (λ j. 2 ^ 62 * (calls_of p j * taken_mass p (mass_in xs) n j)) shares
      (λ j i. subst (λ k. Encloses (scaled_ends (calls_of p j) (taken_by parts n j)) k shares)
      (scaled_by_one (2 ^ 62) (calls_of p j) (taken_mass p (mass_in xs) n j)) (part_holds n j (calls_of p j) l i)))

  pub unit_contained : (n : ℕ) → n < units p → IsContained p (mass_in xs) z (unit_time p parts n)
  unit_contained n l = (
    refl,
    contains_time (unit_ends p parts n)
        (all_calls p * all_service p * trip_mass p (mass_in xs) None n
        + 1000 * split p * service_of p n * queued_mass p (mass_in xs) z * travel_to_calls p None)
        (all_calls p * (all_service p * taken_calls p (mass_in xs) n
        + split p * service_of p n * queued_mass p (mass_in xs) z * all_calls p))
        (measure_of p (mass_in xs) z (measure.TravelUnit n)) refl
        (ap (λ v. 1000 * (all_calls p * v)) (sym (dispatched_made p h.accepted (mass_in xs) z n))
        ∙ unit_grouped (all_calls p) (dispatch_flow_by p (mass_in xs) z n))
        (unit_is (trip_ends p parts None n) (taken_ends p parts n) (help_of parts n) (late_travel_ends p None) (all_calls p)
        (all_service p) (split p) (service_of p n) (queued_mass p (mass_in xs) z) (travel_to_calls p None)
        (trip_mass p (mass_in xs) None n) (taken_calls p (mass_in xs) n) (base p (mass_in xs) z)
        (longest_mean p) (trips_hold None n l) (taken_holds n l) (h.help n l) (late_holds None)
        (unit_fits p h.accepted (mass_in xs) z n l)),
  )

  pub district_contained : (n : ℕ) → n < units p → IsContained p (mass_in xs) z (district_time p parts n)
  district_contained n l =
      found_where p (mass_in xs) z (measure.TravelDistrict n) (eqb (district_calls p n) 0)
      (mean_ends p parts (Some n) (district_calls p n)) refl
      (contains_time (mean_ends p parts (Some n) (district_calls p n))
      (all_calls p * sum_below (units p) (trip_mass p (mass_in xs) (Some n))
      + 1000 * split p * queued_mass p (mass_in xs) z * travel_to_calls p (Some n))
      (all_calls p * district_calls p n * split p * base p (mass_in xs) z)
      (measure_of p (mass_in xs) z (measure.TravelDistrict n)) (sym (travel_made p h.accepted (mass_in xs) z (Some n)))
      (district_grouped (all_calls p) (district_calls p n) (split p) (base p (mass_in xs) z))
      (mean_holds (Some n) (district_calls p n) refl))

-- what holds of the region's time, and of each atom's, unit's and district's, holds of all
pub all_times : (P : Enclosed → Type 0) (p : PlanParts) (parts : PartList) → P (region_time_of p parts)
    → ((j : ℕ) → j < atoms p → P (atom_time p parts j)) → ((n : ℕ) → n < units p → P (unit_time p parts n))
    → ((n : ℕ) → n < units p → P (district_time p parts n)) → All P (travel_times_of p parts)
all_times P p parts region at_atoms of_units of_districts =
    All-cons P (region_time_of p parts) ((atom_times_of p parts ++ unit_times_of p parts) ++ district_times_of p parts) region
    (All-append P (atom_times_of p parts ++ unit_times_of p parts) (district_times_of p parts)
    (All-append P (atom_times_of p parts) (unit_times_of p parts) (all_range P (atom_time p parts) (atoms p) at_atoms)
    (all_range P (unit_time p parts) (units p) of_units))
    (all_range P (district_time p parts) (units p) of_districts))

pub times_contained : (p : PlanParts) (parts : PartList) (xs : List ℕ) (z : ℕ) → HasParts p xs z parts
    → AreContained p (mass_in xs) z (travel_times_of p parts)
times_contained p parts xs z h =
    all_times (IsContained p (mass_in xs) z) p parts (region_contained p xs z parts h) (atom_contained p xs z parts h)
    (unit_contained p xs z parts h) (district_contained p xs z parts h)

-- the measures are the plan's
pub times_in_range : (p : PlanParts) (parts : PartList) → All (λ e. IsInRange p e.measure) (travel_times_of p parts)
times_in_range p parts = all_times (λ e. IsInRange p e.measure) p parts tt (λ j i. i) (λ n l. l) (λ n l. l)

-- and none is without ends but those of districts without calls
pub times_without : (p : PlanParts) (parts : PartList) → All (HasEndsOnly p) (travel_times_of p parts)
times_without p parts =
    all_times (HasEndsOnly p) p parts refl (λ j i. refl) (λ n l. refl)
    (λ n l. absent_where (eqb (district_calls p n) 0) (mean_ends p parts (Some n) (district_calls p n)))

-- The ends of mean travel times, made of parts. Means are in thousandths of a second.
use Rattle.std.specs.Prelude.{ℕ, zero, suc, ◌*◌, ◌^◌, ◌==◌, max, Bool, true, if◌then◌else◌, Option, None, Some, List, ◌∷◌, ◌++◌, map}
use Rattle.std.specs.List.{range_with_len}
use Rattle.fixed_interval.specs.Ends.{Ends, exact_ends, plus_ends, product_ends, scaled_ends, ratio_ends, quotient_ends}
use Rattle.hyper_model.specs.declared.kinds.Measure.TheVariants as measure
use Rattle.hyper_model.specs.declared.kinds.Found.TheVariants as found
use Rattle.hyper_model.specs.declared.kinds.Enclosed.{Enclosed}
use Rattle.hyper_model.specs.declared.parts.PlanParts.{PlanParts}
use Rattle.hyper_model.specs.Sums.{sum_below}
use Rattle.hyper_model.specs.Plans.{units, atoms, calls_of, all_calls, is_inside, district_calls, travel}
use Rattle.hyper_model.specs.Measures.{mean_travel, travel_from_calls}
use Rattle.busy_words.specs.Algebra.{total_ends, where_ends}
use Rattle.busy_words.specs.MeasureEnds.{found_ends, measure_ends}
use Rattle.dispatch_fractions.specs.PartLists.{PartList, taken_by, help_of, waiting_on}

-- the greatest of f 0, f 1, .., f (n - 1)
abbrev pub greatest_below : ℕ → (ℕ → ℕ) → ℕ
greatest_below zero f = 0
greatest_below (suc n) f = max (greatest_below n f) (f n)

-- the longest travel time to atom j, and the longest of all, in seconds
abbrev pub longest_to : PlanParts → ℕ → ℕ
longest_to p j = greatest_below (atoms p) (λ k. travel p k j)

abbrev pub longest_travel : PlanParts → ℕ
longest_travel p = greatest_below (atoms p) (longest_to p)

-- which no mean travel time exceeds, in thousandths of a second
abbrev pub longest_mean : PlanParts → ℕ
longest_mean p = 1000 * longest_travel p

-- whether atom j is in this unit's district, or of the region, if no district is given
abbrev pub is_among : PlanParts → Option ℕ → ℕ → Bool
is_among p None j = true
is_among p (Some n) j = is_inside p n j

-- the seconds of travel from one call's place to the next one's, summed over the atoms of a district or of the
-- region, each times its calls
abbrev pub travel_to_calls : PlanParts → Option ℕ → ℕ
travel_to_calls p district =
    sum_below (atoms p) (λ j. if is_among p district j then calls_of p j * travel_from_calls p j else 0)

-- the same over all calls, in thousandths of a second and counted in 1 / 4096
abbrev pub late_travel_ends : PlanParts → Option ℕ → Ends
late_travel_ends p district = ratio_ends (exact_ends (travel_to_calls p district)) 4096000 (all_calls p)

-- the flow of the calls that unit n takes at once at those atoms, each times the unit's mean travel time to it
abbrev pub trip_ends : PlanParts → PartList → Option ℕ → ℕ → Ends
trip_ends p parts district n =
    total_ends (atoms p) (λ j.
    where_ends (is_among p district j) (scaled_ends (calls_of p j * mean_travel p n j) (taken_by parts n j)))

-- of all units
abbrev pub all_trip_ends : PlanParts → PartList → Option ℕ → Ends
all_trip_ends p parts district = total_ends (units p) (trip_ends p parts district)

-- The mean travel time to calls at those atoms, of which so many come: what is travelled at once, and from the
-- last call's place while calls wait.
abbrev pub mean_ends : PlanParts → PartList → Option ℕ → ℕ → Ends
mean_ends p parts district calls =
    quotient_ends
    (plus_ends (scaled_ends 4096 (all_trip_ends p parts district))
    (product_ends (waiting_on p.line parts.full) (late_travel_ends p district)))
    (exact_ends (4096 * calls * 2 ^ 62)) (longest_mean p)

abbrev pub region_time_of : PlanParts → PartList → Enclosed
region_time_of p parts = measure_ends measure.Travel (mean_ends p parts None (all_calls p))

-- the part of atom j's calls that each unit takes at once, times its mean travel time there
abbrev pub trips_to_ends : PlanParts → PartList → ℕ → Ends
trips_to_ends p parts j = total_ends (units p) (λ n. scaled_ends (mean_travel p n j) (taken_by parts n j))

abbrev pub atom_ends : PlanParts → PartList → ℕ → Ends
atom_ends p parts j =
    quotient_ends
    (plus_ends (scaled_ends (all_calls p) (trips_to_ends p parts j))
    (scaled_ends (1000 * travel_from_calls p j) (waiting_on p.line parts.full)))
    (exact_ends (all_calls p * 2 ^ 62)) (longest_mean p)

abbrev pub atom_time : PlanParts → PartList → ℕ → Enclosed
atom_time p parts j = measure_ends (measure.TravelAtom j) (atom_ends p parts j)

abbrev pub atom_times_of : PlanParts → PartList → List Enclosed
atom_times_of p parts = map (atom_time p parts) (range_with_len 0 (atoms p))

-- the flow of the calls that unit n takes at once
abbrev pub taken_ends : PlanParts → PartList → ℕ → Ends
taken_ends p parts n = total_ends (atoms p) (λ j. scaled_ends (calls_of p j) (taken_by parts n j))

abbrev pub unit_ends : PlanParts → PartList → ℕ → Ends
unit_ends p parts n =
    quotient_ends
    (plus_ends (scaled_ends 4096 (trip_ends p parts None n)) (product_ends (help_of parts n) (late_travel_ends p None)))
    (scaled_ends 4096 (plus_ends (taken_ends p parts n) (scaled_ends (all_calls p) (help_of parts n))))
    (longest_mean p)

abbrev pub unit_time : PlanParts → PartList → ℕ → Enclosed
unit_time p parts n = measure_ends (measure.TravelUnit n) (unit_ends p parts n)

abbrev pub unit_times_of : PlanParts → PartList → List Enclosed
unit_times_of p parts = map (unit_time p parts) (range_with_len 0 (units p))

-- a district that no call comes from has none
abbrev pub district_time : PlanParts → PartList → ℕ → Enclosed
district_time p parts n = record {
  measure = measure.TravelDistrict n;
  found = (
      if district_calls p n == 0 then found.Without else found_ends (mean_ends p parts (Some n) (district_calls p n))
      );
}

abbrev pub district_times_of : PlanParts → PartList → List Enclosed
district_times_of p parts = map (district_time p parts) (range_with_len 0 (units p))

-- all mean travel times, in the order in which a report prints them
abbrev pub travel_times_of : PlanParts → PartList → List Enclosed
travel_times_of p parts =
    region_time_of p parts ∷ (atom_times_of p parts ++ unit_times_of p parts ++ district_times_of p parts)

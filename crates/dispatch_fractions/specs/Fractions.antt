-- The ends of the measures of dispatches, made of parts. A flow is a rate of calls times a part of 2 ^ 62.
use Rattle.std.specs.Prelude.{◌≡◌, ℕ, ◌*◌, ◌^◌, ◌==◌, Bool, true, false, not, if◌then◌else◌, List, ◌∷◌, ◌++◌, map}
use Rattle.std.specs.List.{flat_map, range_with_len}
use Rattle.fixed_interval.specs.Ends.{Ends, exact_ends, plus_ends, scaled_ends, quotient_ends, share_ends}
use Rattle.hyper_model.specs.declared.kinds.Measure.TheVariants as measure
use Rattle.hyper_model.specs.declared.kinds.Found.{Found}
use Rattle.hyper_model.specs.declared.kinds.Found.TheVariants as found
use Rattle.hyper_model.specs.declared.kinds.Enclosed.{Enclosed}
use Rattle.hyper_model.specs.declared.parts.PlanParts.{PlanParts}
use Rattle.hyper_model.specs.Plans.{units, atoms, calls_of, all_calls, is_inside, district_calls}
use Rattle.hyper_model.specs.Measures.{is_without}
use Rattle.busy_words.specs.Algebra.{total_ends, where_ends}
use Rattle.busy_words.specs.MeasureEnds.{found_ends, measure_ends}
use Rattle.dispatch_fractions.specs.PartLists.{PartList, taken_by, help_of}

-- the flow of atom j's calls that unit n answers, at once or out of the queue
abbrev pub flow_ends : PlanParts → PartList → ℕ → ℕ → Ends
flow_ends p parts n j = scaled_ends (calls_of p j) (plus_ends (taken_by parts n j) (help_of parts n))

-- inside a district, or outside of it
abbrev pub is_on_side : PlanParts → ℕ → Bool → ℕ → Bool
is_on_side p m inside j = if inside then is_inside p m j else not (is_inside p m j)

-- the flow of the calls that unit n answers inside unit m's district, or outside of it
abbrev pub side_ends : PlanParts → PartList → Bool → ℕ → ℕ → Ends
side_ends p parts inside n m =
    total_ends (atoms p) (λ j. where_ends (is_on_side p m inside j) (flow_ends p parts n j))

-- of all units, the flow of those that each answers inside its own district, or outside of it
abbrev pub region_ends : PlanParts → PartList → Bool → Ends
region_ends p parts inside = total_ends (units p) (λ n. side_ends p parts inside n n)

-- the flow of those in unit n's district that other units answer
abbrev pub others_ends : PlanParts → PartList → ℕ → Ends
others_ends p parts n = total_ends (units p) (λ m. where_ends (not (m == n)) (side_ends p parts true m n))

-- the share of all answered calls that unit n answers at atom j, in millionths
abbrev pub fraction_of : PlanParts → PartList → ℕ → ℕ → Enclosed
fraction_of p parts n j =
    measure_ends (measure.Dispatch n j)
    (quotient_ends (scaled_ends 1000000 (flow_ends p parts n j)) (exact_ends (all_calls p * 2 ^ 62)) 1000000)

abbrev pub unit_fractions : PlanParts → PartList → ℕ → List Enclosed
unit_fractions p parts n = map (fraction_of p parts n) (range_with_len 0 (atoms p))

-- of each unit in order, those at each atom in order
abbrev pub fractions_of : PlanParts → PartList → List Enclosed
fractions_of p parts = flat_map (unit_fractions p parts) (range_with_len 0 (units p))

-- the share of one flow in two, in millionths
abbrev pub share_found : Ends → Ends → Found
share_found a rest = found_ends (share_ends 1000000 a rest)

abbrev pub region_share : PlanParts → PartList → Enclosed
region_share p parts = record {
  measure = measure.Interdistrict;
  found = share_found (region_ends p parts false) (region_ends p parts true);
}

abbrev pub unit_share : PlanParts → PartList → ℕ → Enclosed
unit_share p parts n = record {
  measure = measure.InterdistrictUnit n;
  found = share_found (side_ends p parts false n n) (side_ends p parts true n n);
}

-- a district that no call comes from has none
abbrev pub district_share : PlanParts → PartList → ℕ → Enclosed
district_share p parts n = record {
  measure = measure.InterdistrictDistrict n;
  found = (
      if district_calls p n == 0 then found.Without
      else share_found (others_ends p parts n) (side_ends p parts true n n)
      );
}

abbrev pub interdistrict_of : PlanParts → PartList → List Enclosed
interdistrict_of p parts =
    region_share p parts
    ∷ (map (unit_share p parts) (range_with_len 0 (units p)) ++ map (district_share p parts) (range_with_len 0 (units p)))

-- ends are reported exactly if the measure has a value
abbrev pub is_absent : Found → Bool
is_absent (found.Ends lo hi) = false
is_absent found.Without = true

abbrev pub HasEndsOnly : PlanParts → Enclosed → Type 0
HasEndsOnly p e = is_absent e.found ≡ is_without p e.measure

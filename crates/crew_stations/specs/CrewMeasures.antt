-- The measures of stations from the masses of the words: Larson's formulas of the crews, summed over the crews of a
-- station. A district is a station's, so that a call is inside it whichever crew of the station answers.
use Rattle.std.specs.Prelude.{◌≡◌, ℕ, ◌+◌, ◌*◌, ◌<◌, ◌==◌, Bool, not, ◌||◌, if◌then◌else◌}
use Rattle.hyper_model.specs.declared.kinds.Measure.{Measure}
use Rattle.hyper_model.specs.declared.kinds.Measure.TheVariants as measure
use Rattle.hyper_model.specs.declared.parts.PlanParts.{PlanParts}
use Rattle.hyper_model.specs.Measures.{Ratio, mass, base, dispatch_flow, dispatch_flow_by, travel_to, measure_of}
use Rattle.hyper_model.specs.Plans.{units, atoms, calls_of, all_calls, all_service, district_of, split, all_below}
use Rattle.hyper_model.specs.Sums.{sum_below}
use Rattle.hyper_model.specs.Words.{words, is_busy}
use Rattle.crew_stations.specs.Lumps.{class_sum}

-- numerator and denominator are those of another ratio, times one number
pub record IsMultiple (r s : Ratio) : Type 0 where
  pub factor : ℕ
  pub positive : 0 < factor
  pub above : r.numerator ≡ factor * s.numerator
  pub below : r.denominator ≡ factor * s.denominator

-- atom j is in the district of station k
abbrev pub is_home : PlanParts → (ℕ → ℕ) → ℕ → ℕ → Bool
is_home p station k j = station (district_of p j) == k

-- the ratio of the crews of station k together
abbrev pub together : PlanParts → (ℕ → ℕ) → (ℕ → Ratio) → ℕ → Ratio
together p station ratio k = record {
  numerator = class_sum (units p) station (λ n. (ratio n).numerator) k;
  denominator = class_sum (units p) station (λ n. (ratio n).denominator) k;
}

-- the flows of calls that unit n answers inside station k's district and outside of it
abbrev pub home_flow : PlanParts → (ℕ → ℕ) → (ℕ → ℕ) → ℕ → ℕ → ℕ → ℕ
home_flow p station x z n k = sum_below (atoms p) (λ j. if is_home p station k j then dispatch_flow p x z n j else 0)

abbrev pub away_flow : PlanParts → (ℕ → ℕ) → (ℕ → ℕ) → ℕ → ℕ → ℕ → ℕ
away_flow p station x z n k = sum_below (atoms p) (λ j. if is_home p station k j then 0 else dispatch_flow p x z n j)

abbrev pub crew_measure : PlanParts → (ℕ → ℕ) → (ℕ → ℕ) → ℕ → Measure → Ratio
crew_measure p station x z measure.Loss = measure_of p x z measure.Loss
crew_measure p station x z measure.Delay = measure_of p x z measure.Delay
crew_measure p station x z measure.Queue = measure_of p x z measure.Queue
crew_measure p station x z measure.Wait = measure_of p x z measure.Wait
crew_measure p station x z (measure.Workload k) = together p station (λ n. measure_of p x z (measure.Workload n)) k
crew_measure p station x z (measure.Dispatch k j) = record {
  numerator = class_sum (units p) station (λ n. dispatch_flow p x z n j) k;
  denominator = all_calls p * all_service p * split p * base p x z;
}
crew_measure p station x z measure.Interdistrict = record {
  numerator = sum_below (units p) (λ n. away_flow p station x z n (station n));
  denominator = sum_below (units p) (dispatch_flow_by p x z);
}
crew_measure p station x z (measure.InterdistrictUnit k) = record {
  numerator = class_sum (units p) station (λ n. away_flow p station x z n k) k;
  denominator = class_sum (units p) station (dispatch_flow_by p x z) k;
}
crew_measure p station x z (measure.InterdistrictDistrict k) = record {
  numerator = sum_below (units p) (λ n. if station n == k then 0 else home_flow p station x z n k);
  denominator = sum_below (units p) (λ n. home_flow p station x z n k);
}
crew_measure p station x z measure.Travel = measure_of p x z measure.Travel
crew_measure p station x z (measure.TravelAtom j) = measure_of p x z (measure.TravelAtom j)
crew_measure p station x z (measure.TravelUnit k) = together p station (λ n. measure_of p x z (measure.TravelUnit n)) k
crew_measure p station x z (measure.TravelDistrict k) = record {
  numerator = sum_below (atoms p) (λ j. if is_home p station k j then calls_of p j * travel_to p x z j else 0);
  denominator = 1000 * all_calls p * split p * base p x z
      * sum_below (atoms p) (λ j. if is_home p station k j then calls_of p j else 0);
}

-- no crew of station k is free in the word
abbrev pub is_exhausted : PlanParts → (ℕ → ℕ) → ℕ → ℕ → Bool
is_exhausted p station word k = all_below (units p) (λ n. not (station n == k) || is_busy word n)

-- the share of time in which no crew of station k is free
abbrev pub exhausted_share : PlanParts → (ℕ → ℕ) → (ℕ → ℕ) → ℕ → ℕ → Ratio
exhausted_share p station x z k = record {
  numerator = sum_below (words p) (λ w. if is_exhausted p station w k then x w else 0) + z;
  denominator = mass p x z;
}

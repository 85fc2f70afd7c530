-- The laws of plans of stations, over the plan with a unit for each crew.
use Rattle.std.specs.Prelude.{◌≡◌, ℕ, ◌<◌, false, List}
use Rattle.hyper_model.specs.declared.kinds.Measure.{Measure}
use Rattle.hyper_model.specs.declared.parts.PlanParts.{PlanParts}
use Rattle.hyper_model.specs.Measures.{is_without, IsInRange}
use Rattle.hyper_model.specs.Plans.{IsAcceptedUpTo}
use Rattle.hyper_model.specs.Solutions.{mass_in, IsSolution, HasSolution}
use Rattle.crew_stations.specs.CrewMeasures.{crew_measure}
use Rattle.crew_stations.specs.Expanded.{station_of, expanded}
use Rattle.crew_stations.specs.Standing.{IsStationed, state_mass}
use Rattle.crew_stations.specs.StateMeasures.{state_measure}
use Rattle.crew_stations.specs.Stations.{StationPlan, IsAcceptedFleet}

-- a law holds of each plan of stations within the limits, however many crews there are
abbrev pub HoldsForFleets : (ℕ → StationPlan → Type 0) → Type 0
HoldsForFleets law = (most : ℕ) (s : StationPlan) → IsAcceptedFleet most s → law most s

-- the plan with a unit for each crew is accepted
abbrev pub IsExpandedAccepted : ℕ → StationPlan → Type 0
IsExpandedAccepted most s = IsAcceptedUpTo most (expanded s)

-- and its units stand at the stations
abbrev pub IsExpandedStationed : ℕ → StationPlan → Type 0
IsExpandedStationed most s = IsStationed (expanded s) s (station_of s)

-- its balance equations have a solution
abbrev pub IsExpandedSolvable : ℕ → StationPlan → Type 0
IsExpandedSolvable most s = HasSolution (expanded s)

-- a law holds of each plan of stations, of the masses of each solution of the plan with a unit for each crew
abbrev pub HoldsOfCrews : (PlanParts → StationPlan → (ℕ → ℕ) → (ℕ → ℕ) → ℕ → Type 0) → Type 0
HoldsOfCrews law =
    (most : ℕ) (s : StationPlan) → IsAcceptedFleet most s
    → (xs : List ℕ) (z : ℕ) → IsSolution (expanded s) xs z → law (expanded s) s (station_of s) (mass_in xs) z

-- each measure of the crews of a station that has a value is a ratio over what is not 0, and so is that of the states
abbrev pub HavePositiveCrews : PlanParts → StationPlan → (ℕ → ℕ) → (ℕ → ℕ) → ℕ → Type 0
HavePositiveCrews p s station x z =
    (m : Measure) → IsInRange s.parts m → is_without s.parts m ≡ false → 0 < (crew_measure p station x z m).denominator

abbrev pub HavePositiveStates : PlanParts → StationPlan → (ℕ → ℕ) → (ℕ → ℕ) → ℕ → Type 0
HavePositiveStates p s station x z =
    (m : Measure) → IsInRange s.parts m → is_without s.parts m ≡ false
    → 0 < (state_measure s (state_mass p s station x) z m).denominator

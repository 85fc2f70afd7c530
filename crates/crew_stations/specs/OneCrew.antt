-- Plans of stations with one crew each: the plan itself, whose states are the words.
use Rattle.std.specs.Prelude.{◌≡◌, ℕ, ◌<◌, List}
use Rattle.hyper_model.specs.declared.kinds.Measure.{Measure}
use Rattle.hyper_model.specs.Laws.{IsSameRatio}
use Rattle.hyper_model.specs.Measures.{measure_of, IsInRange}
use Rattle.hyper_model.specs.Solutions.{mass_in, IsSolution}
use Rattle.crew_stations.specs.StateMeasures.{state_measure}
use Rattle.crew_stations.specs.Stations.{StationPlan, stations, crews_at, SolvesStates}

abbrev pub HasOneCrewEach : StationPlan → Type 0
HasOneCrewEach s = (k : ℕ) → k < stations s → crews_at s k ≡ 1

-- each solution of the plan is one over the states, by the same numbers
abbrev pub AreWordsStates : ℕ → StationPlan → Type 0
AreWordsStates most s =
    HasOneCrewEach s → (xs : List ℕ) (z : ℕ) → IsSolution s.parts xs z → SolvesStates s (mass_in xs) z

-- and each measure of the plan is that of the states
abbrev pub AreMeasuresOfPlan : ℕ → StationPlan → Type 0
AreMeasuresOfPlan most s =
    HasOneCrewEach s → (xs : List ℕ) (z : ℕ) → IsSolution s.parts xs z
    → (m : Measure) → IsInRange s.parts m
    → IsSameRatio (measure_of s.parts (mass_in xs) z m) (state_measure s (mass_in xs) z m)

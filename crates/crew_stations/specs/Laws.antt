-- The laws of plans whose units stand at stations: of every solution over their words, however many units there are.
use Rattle.std.specs.Prelude.{◌≡◌, ℕ, ◌<◌, List}
use Rattle.hyper_model.specs.declared.kinds.Measure.{Measure}
use Rattle.hyper_model.specs.declared.kinds.Measure.TheVariants as measure
use Rattle.hyper_model.specs.declared.parts.PlanParts.{PlanParts}
use Rattle.hyper_model.specs.Laws.{IsSameRatio}
use Rattle.hyper_model.specs.Measures.{Ratio, ContainsRatio, scale_of, measure_of, IsInRange}
use Rattle.hyper_model.specs.Plans.{units, atoms, IsAcceptedUpTo}
use Rattle.hyper_model.specs.Solutions.{mass_in, IsSolution}
use Rattle.hyper_model.specs.Words.{words}
use Rattle.crew_stations.specs.CrewMeasures.{IsMultiple, crew_measure, exhausted_share}
use Rattle.crew_stations.specs.Standing.{IsStationed, state_of, state_mass, exchanged_word}
use Rattle.crew_stations.specs.StateMeasures.{state_measure, full_share, crew_dispatch}
use Rattle.crew_stations.specs.Stations.{StationPlan, stations, SolvesStates}

-- a law holds of each accepted plan whose units stand at stations, of the masses of each of its solutions
abbrev pub HoldsAtStations : (PlanParts → StationPlan → (ℕ → ℕ) → (ℕ → ℕ) → ℕ → Type 0) → Type 0
HoldsAtStations law =
    (most : ℕ) (p : PlanParts) (s : StationPlan) (station : ℕ → ℕ)
    → IsAcceptedUpTo most p → IsStationed p s station
    → (xs : List ℕ) (z : ℕ) → IsSolution p xs z → law p s station (mass_in xs) z

-- the masses of the states are a solution over the states
abbrev pub StatesBalance : PlanParts → StationPlan → (ℕ → ℕ) → (ℕ → ℕ) → ℕ → Type 0
StatesBalance p s station x z = SolvesStates s (state_mass p s station x) z

-- each measure of the crews of a station is that of the masses of the states, times one number above and below
abbrev pub MeasuresAreOfStates : PlanParts → StationPlan → (ℕ → ℕ) → (ℕ → ℕ) → ℕ → Type 0
MeasuresAreOfStates p s station x z =
    (m : Measure) → IsInRange s.parts m
    → IsMultiple (crew_measure p station x z m) (state_measure s (state_mass p s station x) z m)

-- and so is the share of time in which no crew of a station is free
abbrev pub SharesAreOfStates : PlanParts → StationPlan → (ℕ → ℕ) → (ℕ → ℕ) → ℕ → Type 0
SharesAreOfStates p s station x z =
    (k : ℕ) → k < stations s
    → IsMultiple (exhausted_share p station x z k) (full_share s (state_mass p s station x) z k)

-- crews of one station can be exchanged: the words that become each other have equal masses
abbrev pub CrewsAreAlike : PlanParts → StationPlan → (ℕ → ℕ) → (ℕ → ℕ) → ℕ → Type 0
CrewsAreAlike p s station x z =
    (a b : ℕ) → a < units p → b < units p → station a ≡ station b
    → (word : ℕ) → word < words p → x (exchanged_word a b word) ≡ x word

-- so words in which as many crews of each station are busy have equal masses
abbrev pub AreStatesEven : PlanParts → StationPlan → (ℕ → ℕ) → (ℕ → ℕ) → ℕ → Type 0
AreStatesEven p s station x z =
    (v w : ℕ) → v < words p → w < words p → state_of p s station v ≡ state_of p s station w → x v ≡ x w

-- each crew has the workload of its station
abbrev pub CrewsShareWorkloads : PlanParts → StationPlan → (ℕ → ℕ) → (ℕ → ℕ) → ℕ → Type 0
CrewsShareWorkloads p s station x z =
    (n : ℕ) → n < units p
    → IsSameRatio (measure_of p x z (measure.Workload n))
    (state_measure s (state_mass p s station x) z (measure.Workload (station n)))

-- and its mean travel time
abbrev pub CrewsShareTravel : PlanParts → StationPlan → (ℕ → ℕ) → (ℕ → ℕ) → ℕ → Type 0
CrewsShareTravel p s station x z =
    (n : ℕ) → n < units p
    → IsSameRatio (measure_of p x z (measure.TravelUnit n))
    (state_measure s (state_mass p s station x) z (measure.TravelUnit (station n)))

-- and answers an equal share of the calls that its station answers
abbrev pub CrewsShareDispatches : PlanParts → StationPlan → (ℕ → ℕ) → (ℕ → ℕ) → ℕ → Type 0
CrewsShareDispatches p s station x z =
    (n j : ℕ) → n < units p → j < atoms p
    → IsSameRatio (measure_of p x z (measure.Dispatch n j))
    (crew_dispatch s (state_mass p s station x) z (station n) j)

-- ends that contain a measure of the states contain that of the crews
abbrev pub EndsCarryOver : PlanParts → StationPlan → (ℕ → ℕ) → (ℕ → ℕ) → ℕ → Type 0
EndsCarryOver p s station x z =
    (m : Measure) → IsInRange s.parts m → (lo hi : ℕ)
    → ContainsRatio lo hi (scale_of m) (state_measure s (state_mass p s station x) z m)
    → ContainsRatio lo hi (scale_of m) (crew_measure p station x z m)

-- ends that contain a ratio over what is not 0 contain each equal ratio
abbrev pub EndsOfEqualRatios : Type 0
EndsOfEqualRatios =
    (lo hi scale : ℕ) (q r : Ratio) → 0 < r.denominator → IsSameRatio q r → ContainsRatio lo hi scale r
    → ContainsRatio lo hi scale q

-- The weights of a fleet by a certificate: those of its states in the order of their numbers, and if calls wait one more
-- for all states in which one does.
use Rattle.std.specs.Prelude.{◌≡◌, ℕ, ◌+◌, ◌≤◌, List, [], ◌∷◌, ◌++◌, length, map}
use Rattle.std.specs.List.{range_with_len}
use Rattle.fixed_interval.specs.Ends.{Ends, between, shifted_ends}
use Rattle.fixed_interval.specs.WeightList.{EnclosesAll, WeightList}
use Rattle.hyper_model.specs.declared.kinds.Line.{Line}
use Rattle.hyper_model.specs.declared.kinds.Line.TheVariants as line
use Rattle.hyper_model.specs.declared.parts.PlanParts.{PlanParts}
use Rattle.hyper_model.specs.Plans.{all_calls, IsAcceptedUpTo}
use Rattle.hyper_model.specs.Solutions.{mass_in, IsSolution}
use Rattle.crew_stations.specs.Standing.{IsStationed, state_mass}
use Rattle.crew_stations.specs.Stations.{StationPlan, fleet_service, states, state_table}
use Rattle.queue_tail.specs.Tail.{GainsTail}
use Rattle.state_certificate.specs.Certificates.{AreCertified}

-- how many weights a fleet has
abbrev pub places_on : Line → StationPlan → ℕ
places_on line.Zero s = states s
places_on line.Infinite s = states s + 1

abbrev pub places : StationPlan → ℕ
places s = places_on s.parts.line s

-- the first n states, each with its low and high mass in a unit of 2 ^ 10, rounded outward
abbrev pub weights_between : (ℕ → ℕ) → (ℕ → ℕ) → ℕ → List Ends
weights_between low high n = map (λ state. shifted_ends 10 (between (low state) (high state))) (range_with_len 0 n)

-- the weights of the states, from masses that have a certificate
pub record AreWeightsOfStates (s : StationPlan) (items : List Ends) : Type 0 where
  pub low : ℕ → ℕ
  pub high : ℕ → ℕ
  pub certified : AreCertified (states s) (state_table s) low high
  pub weights : items ≡ weights_between low high (states s)

-- after them comes that of the tail, if calls wait
abbrev pub GainsWaiting : Line → StationPlan → List Ends → List Ends → Type 0
GainsWaiting line.Zero s old new = new ≡ old
GainsWaiting line.Infinite s old new = GainsTail (all_calls s.parts) (fleet_service s) old new

-- the weights of a fleet, which have a certificate
pub record AreCertifiedStateWeights (s : StationPlan) (items : List Ends) : Type 0 where
  pub before : List Ends
  pub states : AreWeightsOfStates s before
  pub waiting : GainsWaiting s.parts.line s before items

-- the widest weights of a fleet: from 0 to 1 for each state
pub record AreWidestStateWeights (s : StationPlan) (items : List Ends) : Type 0 where
  pub before : List Ends
  pub states : before ≡ weights_between (λ _. 0) (λ _. 1) (states s)
  pub waiting : GainsWaiting s.parts.line s before items

-- the masses of the states, and if calls wait the mass of all states in which one does
abbrev pub tail_masses : Line → ℕ → List ℕ
tail_masses line.Zero z = []
tail_masses line.Infinite z = z ∷ []

abbrev pub masses_by_place : StationPlan → (ℕ → ℕ) → ℕ → List ℕ
masses_by_place s y z = map y (range_with_len 0 (states s)) ++ tail_masses s.parts.line z

-- up to one common factor the weights enclose the masses of the states, in every solution of every plan whose units stand
-- at the stations, however many there are
abbrev pub EncloseEverySolution : StationPlan → List Ends → Type 0
EncloseEverySolution s items =
    (most : ℕ) (p : PlanParts) (station : ℕ → ℕ) → IsAcceptedUpTo most p → IsStationed p s station
    → (xs : List ℕ) (z : ℕ) → IsSolution p xs z
    → EnclosesAll items (masses_by_place s (state_mass p s station (mass_in xs)) z)

-- room for what solving the fleet takes
pub record IsReady (s : StationPlan) (masses room low high : List ℕ) (weights : WeightList) : Type 0 where
  pub one_each : length masses ≡ states s
  pub room_each : length room ≡ states s
  pub low_each : length low ≡ states s
  pub high_each : length high ≡ states s
  pub empty : weights.items ≡ []
  pub spare : states s + 1 ≤ weights.spare

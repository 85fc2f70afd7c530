-- Plans of stations: each station has crews of one rate at one place, and stands in each preference list as one. The
-- state of such a fleet is how many crews of each station are busy.
use Rattle.std.specs.Prelude.{◌≡◌, ℕ, zero, suc, ◌+◌, ◌-◌, ◌*◌, ◌/◌, ◌%◌, ◌<◌, ◌≤◌, ◌==◌, nat_lt, Bool, true, false, if◌then◌else◌, List, [], ◌∷◌, length, slice_index_or}
use Rattle.hyper_model.specs.declared.kinds.Line.{Line}
use Rattle.hyper_model.specs.declared.kinds.Line.TheVariants as line
use Rattle.hyper_model.specs.declared.parts.PlanParts.{PlanParts}
use Rattle.hyper_model.specs.declared.TheConstants.{MOST_RATE, MOST_PERIOD}
use Rattle.hyper_model.specs.Groups.{list_of}
use Rattle.hyper_model.specs.Plans.{units, atoms, service_of, calls_of, all_calls, groups_of, are_single, unit_name, IsBetween, IsStable, HasAtoms, HasLists, HasLocations, HasTravel}
use Rattle.hyper_model.specs.Sums.{sum_below}
use Rattle.hyper_model.specs.Tables.{RateTable, SolvesTable}

-- a plan with one unit for each station, and how many crews each station has
pub record StationPlan : Type 0 where
  pub parts : PlanParts
  pub crews : List ℕ

abbrev pub stations : StationPlan → ℕ
stations s = units s.parts

-- how many crews station k has, and how many there are in all
abbrev pub crews_at : StationPlan → ℕ → ℕ
crews_at s k = slice_index_or s.crews k 0

abbrev pub all_crews : StationPlan → ℕ
all_crews s = sum_below (stations s) (crews_at s)

-- the rate at which one crew of station k serves, and that of all crews when all are busy
abbrev pub crew_service : StationPlan → ℕ → ℕ
crew_service s k = service_of s.parts k

abbrev pub fleet_service : StationPlan → ℕ
fleet_service s = sum_below (stations s) (λ k. crews_at s k * crew_service s k)

-- the stations of atom j's list, in order
abbrev pub order_of : StationPlan → ℕ → List ℕ
order_of s j = list_of s.parts.lists j

-- 1 to so many crews in all, at least one at each station; stations with names of their own, no two in one group; each
-- crew with a service rate, of 1,000,000 in all at most; and all else as in a plan
pub record IsAcceptedFleet (most : ℕ) (s : StationPlan) : Type 0 where
  pub one_each : length s.crews ≡ stations s
  pub some : (k : ℕ) → k < stations s → 0 < crews_at s k
  pub number : IsBetween 1 most (all_crews s)
  pub named : (k m : ℕ) → k < stations s → m < stations s → unit_name s.parts k ≡ unit_name s.parts m → k ≡ m
  pub rates : (k : ℕ) → k < stations s → IsBetween 1 MOST_RATE (crew_service s k)
  pub service : fleet_service s ≤ MOST_RATE
  pub single : (j : ℕ) → j < atoms s.parts → are_single (groups_of s.parts j) ≡ true
  pub atoms : HasAtoms s.parts
  pub lists : HasLists s.parts
  pub locations : HasLocations s.parts
  pub travel : HasTravel s.parts
  pub period : IsBetween 1 MOST_PERIOD s.parts.period
  pub stable : IsStable s.parts.line (all_calls s.parts) (fleet_service s)

-- The number of a state: the busy crews of the stations are its digits, that of station k from 0 to the station's
-- crews. What one busy crew more at station k adds to the number is the product over the stations before it.
abbrev pub stride : (ℕ → ℕ) → ℕ → ℕ
stride crews zero = 1
stride crews (suc k) = stride crews k * (crews k + 1)

abbrev pub stride_of : StationPlan → ℕ → ℕ
stride_of s k = stride (crews_at s) k

abbrev pub states : StationPlan → ℕ
states s = stride_of s (stations s)

-- the state in which all crews are busy
abbrev pub full_state : StationPlan → ℕ
full_state s = sum_below (stations s) (λ k. crews_at s k * stride_of s k)

-- how many crews of station k are busy in a state, and whether one is free
abbrev pub busy_in : StationPlan → ℕ → ℕ → ℕ
busy_in s state k = state / stride_of s k % (crews_at s k + 1)

abbrev pub has_room : StationPlan → ℕ → ℕ → Bool
has_room s state k = nat_lt (busy_in s state k) (crews_at s k)

-- station k is the first of the list that has a free crew
abbrev pub is_first : StationPlan → List ℕ → ℕ → ℕ → Bool
is_first s [] state k = false
is_first s (m ∷ order) state k = if has_room s state m then m == k else is_first s order state k

-- a call of atom j in this state goes to station k
abbrev pub answers : StationPlan → ℕ → ℕ → ℕ → Bool
answers s j state k = is_first s (order_of s j) state k

-- the rate at which crews of station k are sent, and at which they end their services
abbrev pub sent_rate : StationPlan → ℕ → ℕ → ℕ
sent_rate s state k = sum_below (atoms s.parts) (λ j. if answers s j state k then calls_of s.parts j else 0)

abbrev pub ended_rate : StationPlan → ℕ → ℕ → ℕ
ended_rate s state k = busy_in s state k * crew_service s k

-- the rates between states: a crew of a station is sent, or ends its service
abbrev pub state_table : StationPlan → RateTable
state_table s a b = sum_below (stations s) (λ k.
    (if b == a + stride_of s k then sent_rate s a k else 0)
    + (if b + stride_of s k == a then ended_rate s a k else 0))

-- z is the mass of all states in which a call waits
abbrev pub IsStateTail : Line → StationPlan → (ℕ → ℕ) → ℕ → Type 0
IsStateTail line.Zero s y z = z ≡ 0
IsStateTail line.Infinite s y z = (fleet_service s - all_calls s.parts) * z ≡ all_calls s.parts * y (full_state s)

-- the masses of the states, not all 0, balance at every state, and z is that of the waiting calls
pub record SolvesStates (s : StationPlan) (y : ℕ → ℕ) (z : ℕ) : Type 0 where
  pub table : SolvesTable (states s) (state_table s) y
  pub tail : IsStateTail s.parts.line s y z

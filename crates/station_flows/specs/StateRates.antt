-- The rates between the states of a fleet, in lists.
use Rattle.std.specs.Prelude.{◌≡◌, ℕ, ◌+◌, ◌*◌, ◌<◌, ◌==◌, nat_lt, if◌then◌else◌, List, length, slice_index}
use Rattle.hyper_model.specs.Plans.{atoms, calls_of}
use Rattle.hyper_model.specs.Sums.{sum_below}
use Rattle.crew_stations.specs.Stations.{StationPlan, stations, stride_of, states, busy_in, answers, sent_rate, ended_rate}

-- of each station, what one busy crew more adds to the number of a state
pub record HasStrides (s : StationPlan) (strides : List ℕ) : Type 0 where
  pub one_each : length strides ≡ stations s
  pub each : (k : ℕ) → k < stations s → slice_index strides k ≡ stride_of s k

-- where station k stands in a state: state by state, of each all stations
abbrev pub place_of : StationPlan → ℕ → ℕ → ℕ
place_of s state k = state * stations s + k

-- the list has these rates, each at its place
pub record HasRates (s : StationPlan) (rate : ℕ → ℕ → ℕ) (rates : List ℕ) : Type 0 where
  pub one_each : length rates ≡ states s * stations s
  pub each : (state k : ℕ) → state < states s → k < stations s → slice_index rates (place_of s state k) ≡ rate state k

-- the list has how many crews of each station are busy in each state, laid out alike
abbrev pub HasDigits : StationPlan → List ℕ → Type 0
HasDigits s digits = HasRates s (busy_in s) digits

-- a fleet's states are numbered: by the strides, and back by the digits
pub record IsNumbered (s : StationPlan) (strides digits : List ℕ) : Type 0 where
  pub forward : HasStrides s strides
  pub back : HasDigits s digits

-- the rate at which crews of station k are sent to calls of the first atoms
abbrev pub sent_to_first : ℕ → StationPlan → ℕ → ℕ → ℕ
sent_to_first count s state k = sum_below count (λ j. if answers s j state k then calls_of s.parts j else 0)

-- of how many atoms the calls are counted in a state: of all in the states before this one, and in it of the first
abbrev pub counted_atoms : StationPlan → ℕ → ℕ → ℕ → ℕ
counted_atoms s now count state = if nat_lt state now then atoms s.parts else if state == now then count else 0

-- the rate at which crews of station k are sent, as far as it is counted
abbrev pub sent_so_far : StationPlan → ℕ → ℕ → ℕ → ℕ → ℕ
sent_so_far s now count state k = sent_to_first (counted_atoms s now count state) s state k

-- the rate out of a state, that of all crews that are sent or end their services
abbrev pub leaving_rate : StationPlan → ℕ → ℕ
leaving_rate s state = sum_below (stations s) (λ k. sent_rate s state k + ended_rate s state k)

-- of each state, the rate out of it
pub record HasLeavings (s : StationPlan) (leavings : List ℕ) : Type 0 where
  pub one_each : length leavings ≡ states s
  pub each : (state : ℕ) → state < states s → slice_index leavings state ≡ leaving_rate s state

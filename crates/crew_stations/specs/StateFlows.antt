-- The flows between states, station by station: what a certificate of their balance asks of a table of rates.
use Rattle.std.specs.Prelude.{◌≡◌, ℕ, ◌+◌, ◌-◌, ◌*◌, ◌<◌, nat_lt, if◌then◌else◌}
use Rattle.hyper_model.specs.Sums.{sum_below}
use Rattle.crew_stations.specs.Stations.{StationPlan, stations, stride_of, states, busy_in, has_room, crew_service, sent_rate, ended_rate, state_table}

-- the flow into state b by a crew of station k that was sent, and by one that ended its service, where y(a) is the mass of
-- state a
abbrev pub came_sent : StationPlan → (ℕ → ℕ) → ℕ → ℕ → ℕ
came_sent s y b k =
    if nat_lt 0 (busy_in s b k) then y (b - stride_of s k) * sent_rate s (b - stride_of s k) k else 0

abbrev pub came_ended : StationPlan → (ℕ → ℕ) → ℕ → ℕ → ℕ
came_ended s y b k =
    if has_room s b k then y (b + stride_of s k) * ((busy_in s b k + 1) * crew_service s k) else 0

-- the flow into a state, of all states, is that from the states with one busy crew less or more
abbrev pub IsInflowOfStations : StationPlan → Type 0
IsInflowOfStations s =
    (y : ℕ → ℕ) (b : ℕ) → b < states s
    → sum_below (states s) (λ a. y a * state_table s a b)
    ≡ sum_below (stations s) (λ k. came_sent s y b k + came_ended s y b k)

-- the rate out of a state is that of all crews that are sent or end their services
abbrev pub IsOutflowOfStations : StationPlan → Type 0
IsOutflowOfStations s =
    (a : ℕ) → a < states s
    → sum_below (states s) (state_table s a) ≡ sum_below (stations s) (λ k. sent_rate s a k + ended_rate s a k)

-- The measures of a fleet of stations from the masses of its states: y(a) is the mass of state a with nobody waiting, z
-- that of all states in which a call waits. A measure of a unit is read as that of a station, and its district as the
-- station's.
use Rattle.std.specs.Prelude.{ℕ, ◌+◌, ◌-◌, ◌*◌, ◌==◌, if◌then◌else◌}
use Rattle.hyper_model.specs.declared.kinds.Line.{Line}
use Rattle.hyper_model.specs.declared.kinds.Line.TheVariants as line
use Rattle.hyper_model.specs.declared.kinds.Measure.{Measure}
use Rattle.hyper_model.specs.declared.kinds.Measure.TheVariants as measure
use Rattle.hyper_model.specs.Measures.{Ratio, zero_ratio, mean_travel, travel_from_calls, travel_among_calls}
use Rattle.hyper_model.specs.Plans.{atoms, calls_of, all_calls, is_inside, district_calls}
use Rattle.hyper_model.specs.Sums.{sum_below}
use Rattle.crew_stations.specs.Stations.{StationPlan, stations, crews_at, crew_service, fleet_service, states, full_state, busy_in, has_room, answers}

-- the mass of all states
abbrev pub total : StationPlan → (ℕ → ℕ) → ℕ → ℕ
total s y z = sum_below (states s) y + z

-- the busy crews of station k, summed over the states, each times its mass
abbrev pub busy_crews : StationPlan → (ℕ → ℕ) → ℕ → ℕ → ℕ
busy_crews s y z k = sum_below (states s) (λ a. y a * busy_in s a k) + crews_at s k * z

-- the mass of the states in which no crew of station k is free
abbrev pub exhausted : StationPlan → (ℕ → ℕ) → ℕ → ℕ → ℕ
exhausted s y z k = sum_below (states s) (λ a. if has_room s a k then 0 else y a) + z

-- the mass of the states in which a call that comes has to wait
abbrev pub queued_on : Line → StationPlan → (ℕ → ℕ) → ℕ → ℕ
queued_on line.Zero s y z = 0
queued_on line.Infinite s y z = y (full_state s) + z

abbrev pub queued : StationPlan → (ℕ → ℕ) → ℕ → ℕ
queued s y z = queued_on s.parts.line s y z

-- the mass of the states in which a call that comes is answered, at once or later
abbrev pub answerable_on : Line → StationPlan → (ℕ → ℕ) → ℕ → ℕ
answerable_on line.Zero s y z = sum_below (full_state s) y
answerable_on line.Infinite s y z = total s y z

abbrev pub answerable : StationPlan → (ℕ → ℕ) → ℕ → ℕ
answerable s y z = answerable_on s.parts.line s y z

-- the mass of the states in which a call of atom j goes to station k at once
abbrev pub answered : StationPlan → (ℕ → ℕ) → ℕ → ℕ → ℕ
answered s y k j = sum_below (states s) (λ a. if answers s j a k then y a else 0)

-- the flow of calls of atom j that the crews of station k answer, times all service: those answered at once, and those
-- out of the queue, of which the station takes the part that its service is of all service
abbrev pub answer_flow : StationPlan → (ℕ → ℕ) → ℕ → ℕ → ℕ → ℕ
answer_flow s y z k j =
    calls_of s.parts j * (fleet_service s * answered s y k j + crews_at s k * crew_service s k * queued s y z)

-- such flows of station k to all atoms, to those of station m's district, and to all others
abbrev pub flow_by : StationPlan → (ℕ → ℕ) → ℕ → ℕ → ℕ
flow_by s y z k = sum_below (atoms s.parts) (answer_flow s y z k)

abbrev pub flow_inside : StationPlan → (ℕ → ℕ) → ℕ → ℕ → ℕ → ℕ
flow_inside s y z k m = sum_below (atoms s.parts) (λ j. if is_inside s.parts m j then answer_flow s y z k j else 0)

abbrev pub flow_outside : StationPlan → (ℕ → ℕ) → ℕ → ℕ → ℕ → ℕ
flow_outside s y z k m = sum_below (atoms s.parts) (λ j. if is_inside s.parts m j then 0 else answer_flow s y z k j)

-- the flow of calls that station k answers at once, each times the mean travel time from there to its atom
abbrev pub way_by : StationPlan → (ℕ → ℕ) → ℕ → ℕ
way_by s y k = sum_below (atoms s.parts) (λ j. calls_of s.parts j * answered s y k j * mean_travel s.parts k j)

-- the numerator of the mean travel time to atom j
abbrev pub way_to : StationPlan → (ℕ → ℕ) → ℕ → ℕ → ℕ
way_to s y z j =
    all_calls s.parts * sum_below (stations s) (λ k. answered s y k j * mean_travel s.parts k j)
    + 1000 * queued s y z * travel_from_calls s.parts j

abbrev pub loss_of : Line → StationPlan → (ℕ → ℕ) → ℕ → Ratio
loss_of line.Zero s y z = record { numerator = y (full_state s); denominator = total s y z }
loss_of line.Infinite s y z = zero_ratio

abbrev pub delay_of : Line → StationPlan → (ℕ → ℕ) → ℕ → Ratio
delay_of line.Zero s y z = zero_ratio
delay_of line.Infinite s y z = record { numerator = y (full_state s) + z; denominator = total s y z }

abbrev pub queue_of : Line → StationPlan → (ℕ → ℕ) → ℕ → Ratio
queue_of line.Zero s y z = zero_ratio
queue_of line.Infinite s y z = record {
  numerator = z * fleet_service s;
  denominator = total s y z * (fleet_service s - all_calls s.parts);
}

abbrev pub wait_of : Line → StationPlan → (ℕ → ℕ) → ℕ → Ratio
wait_of line.Zero s y z = zero_ratio
wait_of line.Infinite s y z = record {
  numerator = s.parts.period * z * fleet_service s;
  denominator = total s y z * (fleet_service s - all_calls s.parts) * all_calls s.parts;
}

abbrev pub state_measure : StationPlan → (ℕ → ℕ) → ℕ → Measure → Ratio
state_measure s y z measure.Loss = loss_of s.parts.line s y z
state_measure s y z measure.Delay = delay_of s.parts.line s y z
state_measure s y z measure.Queue = queue_of s.parts.line s y z
state_measure s y z measure.Wait = wait_of s.parts.line s y z
state_measure s y z (measure.Workload k) =
    record { numerator = busy_crews s y z k; denominator = crews_at s k * total s y z }
state_measure s y z (measure.Dispatch k j) = record {
  numerator = answer_flow s y z k j;
  denominator = all_calls s.parts * fleet_service s * answerable s y z;
}
state_measure s y z measure.Interdistrict = record {
  numerator = sum_below (stations s) (λ k. flow_outside s y z k k);
  denominator = sum_below (stations s) (flow_by s y z);
}
state_measure s y z (measure.InterdistrictUnit k) =
    record { numerator = flow_outside s y z k k; denominator = flow_by s y z k }
state_measure s y z (measure.InterdistrictDistrict k) = record {
  numerator = sum_below (stations s) (λ m. if m == k then 0 else flow_inside s y z m k);
  denominator = sum_below (stations s) (λ m. flow_inside s y z m k);
}
state_measure s y z measure.Travel = record {
  numerator = all_calls s.parts * sum_below (stations s) (way_by s y)
      + 1000 * queued s y z * travel_among_calls s.parts;
  denominator = 1000 * all_calls s.parts * all_calls s.parts * answerable s y z;
}
state_measure s y z (measure.TravelAtom j) =
    record { numerator = way_to s y z j; denominator = 1000 * all_calls s.parts * answerable s y z }
state_measure s y z (measure.TravelUnit k) = record {
  numerator = all_calls s.parts * fleet_service s * way_by s y k
      + 1000 * (crews_at s k * crew_service s k) * queued s y z * travel_among_calls s.parts;
  denominator = 1000 * all_calls s.parts * flow_by s y z k;
}
state_measure s y z (measure.TravelDistrict k) = record {
  numerator = sum_below (atoms s.parts) (λ j. if is_inside s.parts k j then calls_of s.parts j * way_to s y z j else 0);
  denominator = 1000 * all_calls s.parts * answerable s y z * district_calls s.parts k;
}

-- the share of time in which no crew of station k is free
abbrev pub full_share : StationPlan → (ℕ → ℕ) → ℕ → ℕ → Ratio
full_share s y z k = record { numerator = exhausted s y z k; denominator = total s y z }

-- the share of atom j's calls that one crew of station k answers
abbrev pub crew_dispatch : StationPlan → (ℕ → ℕ) → ℕ → ℕ → ℕ → Ratio
crew_dispatch s y z k j = record {
  numerator = answer_flow s y z k j;
  denominator = crews_at s k * (all_calls s.parts * fleet_service s * answerable s y z);
}

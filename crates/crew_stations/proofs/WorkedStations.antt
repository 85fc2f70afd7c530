-- Two stations by hand: the first has two crews of rate 2, the second one of rate 3. P's calls ask for the first station
-- first, Q's for the second. The masses of the states stand in the order: none busy, one and two of the first station,
-- and the same with the second's crew busy. The ends are the digits next to the exact values, which were computed apart
-- from the definitions, in fractions, as sums of shares and of mean times.
use Rattle.std.proofs.Common.{◌≡◌, ℕ, List, [], ◌∷◌, true, false, refl, arith}
use Rattle.hyper_model.specs.declared.kinds.Line.{Line}
use Rattle.hyper_model.specs.declared.kinds.Line.TheVariants as line
use Rattle.hyper_model.specs.declared.kinds.Measure.{Measure}
use Rattle.hyper_model.specs.declared.kinds.Measure.TheVariants as measure
use Rattle.hyper_model.specs.declared.kinds.Rule.TheVariants as rule
use Rattle.hyper_model.specs.Measures.{ContainsRatio, scale_of}
use Rattle.hyper_model.specs.Plans.{groups_of, service_of, district_of, located}
use Rattle.hyper_model.specs.Solutions.{mass_in, IsSolution}
use Rattle.hyper_model.specs.Tables.{SolvesTable}
use Rattle.hyper_model.proofs.Worked.{each_below, row_of_units}
use Rattle.crew_stations.specs.CrewMeasures.{crew_measure, exhausted_share}
use Rattle.crew_stations.specs.Expanded.{station_of, expanded}
use Rattle.crew_stations.specs.Standing.{state_of, state_mass, exchanged_word}
use Rattle.crew_stations.specs.StateMeasures.{state_measure, full_share, crew_dispatch}
use Rattle.crew_stations.specs.Stations.{StationPlan, states, full_state, busy_in, answers, sent_rate, ended_rate, state_table}

abbrev pub two_stations : Line → StationPlan
two_stations waits = record {
  parts = record {
    line = waits;
    rule = rule.Given;
    period = 3600;
    units = record { name = 65 ∷ []; rate = 2 } ∷ record { name = 66 ∷ []; rate = 3 } ∷ [];
    atoms =
        record { name = 80 ∷ []; rate = 2; x = 0; y = 0; district = 0 }
        ∷ record { name = 81 ∷ []; rate = 1; x = 9; y = 0; district = 1 }
        ∷ [];
    lists = record {
      units = 2;
      rows = row_of_units (0 ∷ 1 ∷ []) (true ∷ true ∷ []) ∷ row_of_units (1 ∷ 0 ∷ []) (true ∷ true ∷ []) ∷ [];
    };
    located = record { rows = 2; cols = 2; cells = 1000 ∷ 0 ∷ 0 ∷ 1000 ∷ [] };
    travel = record { rows = 2; cols = 2; cells = 60 ∷ 200 ∷ 300 ∷ 90 ∷ [] };
  };
  crews = 2 ∷ 1 ∷ [];
}

abbrev lost : StationPlan
lost = two_stations line.Zero

abbrev waiting : StationPlan
waiting = two_stations line.Infinite

-- six states, of which the last has all crews busy
state_numbers : (states lost ≡ 6) × (full_state lost ≡ 5)
state_numbers = (refl, refl)

-- state 4 has one busy crew at each station, state 2 two at the first
busy_numbers : (busy_in lost 4 0 ≡ 1) × (busy_in lost 4 1 ≡ 1) × (busy_in lost 2 0 ≡ 2) × (busy_in lost 2 1 ≡ 0)
busy_numbers = (refl, refl, refl, refl)

-- with both crews of the first station busy all calls go to the second; with the second's busy, all to the first
answering :
    (answers lost 0 2 0 ≡ false) × (answers lost 0 2 1 ≡ true) × (answers lost 1 3 0 ≡ true) × (answers lost 1 3 1 ≡ false)
answering = (refl, refl, refl, refl)

rates :
    (sent_rate lost 0 0 ≡ 2) × (sent_rate lost 0 1 ≡ 1) × (sent_rate lost 2 1 ≡ 3) × (sent_rate lost 5 0 ≡ 0)
    × (ended_rate lost 2 0 ≡ 4) × (ended_rate lost 5 1 ≡ 3)
rates = (refl, refl, refl, refl, refl, refl)

table_rates :
    (state_table lost 4 5 ≡ 3) × (state_table lost 4 3 ≡ 2) × (state_table lost 4 1 ≡ 3) × (state_table lost 4 2 ≡ 0)
table_rates = (refl, refl, refl, refl)

-- the plan with a unit for each crew: 0 and 1 at the first station, 2 at the second
crew_stations : (station_of lost 0 ≡ 0) × (station_of lost 1 ≡ 0) × (station_of lost 2 ≡ 1)
crew_stations = (refl, refl, refl)

crew_lists :
    (groups_of (expanded lost) 0 ≡ (0 ∷ 1 ∷ []) ∷ (2 ∷ []) ∷ []) × (groups_of (expanded lost) 1 ≡ (2 ∷ []) ∷ (0 ∷ 1 ∷ []) ∷ [])
crew_lists = (refl, refl)

crew_parts :
    (service_of (expanded lost) 1 ≡ 2) × (service_of (expanded lost) 2 ≡ 3) × (district_of (expanded lost) 1 ≡ 2)
    × (located (expanded lost) 1 0 ≡ 1000) × (located (expanded lost) 2 1 ≡ 1000)
crew_parts = (refl, refl, refl, refl, refl)

-- the words of the three crews by states, and two words that become each other
word_states :
    (state_of (expanded lost) lost (station_of lost) 2 ≡ 1) × (state_of (expanded lost) lost (station_of lost) 3 ≡ 2)
    × (state_of (expanded lost) lost (station_of lost) 4 ≡ 3) × (state_of (expanded lost) lost (station_of lost) 6 ≡ 4)
word_states = (refl, refl, refl, refl)

exchanged : (exchanged_word 0 1 5 ≡ 6) × (exchanged_word 0 1 6 ≡ 5) × (exchanged_word 0 1 3 ≡ 3)
exchanged = (refl, refl, refl)

-- masses of the states, and of the words: the mass of a state is shared equally by its words
abbrev state_masses : List ℕ
state_masses = 2736 ∷ 2820 ∷ 1257 ∷ 856 ∷ 1200 ∷ 1053 ∷ []

abbrev word_masses : List ℕ
word_masses = 2736 ∷ 1410 ∷ 1410 ∷ 1257 ∷ 856 ∷ 600 ∷ 600 ∷ 1053 ∷ []

states_solve : SolvesTable (states lost) (state_table lost) (mass_in state_masses)
states_solve = record {
  positive = omega arith;
  balanced = each_below 6 _ ((((((tt, refl), refl), refl), refl), refl), refl);
}

words_solve : IsSolution (expanded lost) word_masses 0
words_solve = record {
  words = record {
    one_each = refl;
    positive = omega arith;
    balanced = each_below 8 _ ((((((((tt, refl), refl), refl), refl), refl), refl), refl), refl);
  };
  tail = refl;
}

masses_lump :
    (state_mass (expanded lost) lost (station_of lost) (mass_in word_masses) 1 ≡ 2820)
    × (state_mass (expanded lost) lost (station_of lost) (mass_in word_masses) 4 ≡ 1200)
    × (state_mass (expanded lost) lost (station_of lost) (mass_in word_masses) 5 ≡ 1053)
masses_lump = (refl, refl, refl)

abbrev LiesBetween : Measure → ℕ → ℕ → Type 0
LiesBetween m lo hi = ContainsRatio lo hi (scale_of m) (state_measure lost (mass_in state_masses) 0 m)

loss : LiesBetween measure.Loss 106127 106128
loss = omega arith

workloads : LiesBetween (measure.Workload 0) 435396 435397 × LiesBetween (measure.Workload 1) 313344 313345
workloads = omega arith

full_shares :
    ContainsRatio 232815 232816 1000000 (full_share lost (mass_in state_masses) 0 0)
    × ContainsRatio 313344 313345 1000000 (full_share lost (mass_in state_masses) 0 1)
full_shares = omega arith

dispatches :
    LiesBetween (measure.Dispatch 0 0) 572180 572181
    × LiesBetween (measure.Dispatch 0 1) 77272 77273
    × LiesBetween (measure.Dispatch 1 0) 94486 94487
    × LiesBetween (measure.Dispatch 1 1) 256060 256061
dispatches = omega arith

-- one of the two crews of the first station answers half of what the station does
crew_share : ContainsRatio 286090 286091 1000000 (crew_dispatch lost (mass_in state_masses) 0 0 0)
crew_share = omega arith

interdistrict :
    LiesBetween measure.Interdistrict 171759 171760
    × LiesBetween (measure.InterdistrictUnit 0) 118981 118982
    × LiesBetween (measure.InterdistrictUnit 1) 269540 269541
    × LiesBetween (measure.InterdistrictDistrict 0) 141729 141730
    × LiesBetween (measure.InterdistrictDistrict 1) 231818 231819
interdistrict = omega arith

travel :
    LiesBetween measure.Travel 101176 101177
    × LiesBetween (measure.TravelAtom 0) 94015 94016
    × LiesBetween (measure.TravelAtom 1) 115500 115501
    × LiesBetween (measure.TravelUnit 0) 76657 76658
    × LiesBetween (measure.TravelUnit 1) 146603 146604
    × LiesBetween (measure.TravelDistrict 0) 94015 94016
    × LiesBetween (measure.TravelDistrict 1) 115500 115501
travel = omega arith

-- the crews' own sums over the words say the same
abbrev CrewsLieBetween : Measure → ℕ → ℕ → Type 0
CrewsLieBetween m lo hi =
    ContainsRatio lo hi (scale_of m) (crew_measure (expanded lost) (station_of lost) (mass_in word_masses) 0 m)

crew_values :
    CrewsLieBetween (measure.Workload 0) 435396 435397
    × CrewsLieBetween (measure.Dispatch 0 0) 572180 572181
    × CrewsLieBetween measure.Interdistrict 171759 171760
    × CrewsLieBetween (measure.TravelUnit 1) 146603 146604
    × ContainsRatio 232815 232816 1000000
    (exhausted_share (expanded lost) (station_of lost) (mass_in word_masses) 0 0)
crew_values = omega arith

-- if calls wait, the masses are those times 4, and 3 in 4 of the full state's wait
abbrev waiting_masses : List ℕ
waiting_masses = 10944 ∷ 11280 ∷ 5028 ∷ 3424 ∷ 4800 ∷ 4212 ∷ []

abbrev WaitsBetween : Measure → ℕ → ℕ → Type 0
WaitsBetween m lo hi = ContainsRatio lo hi (scale_of m) (state_measure waiting (mass_in waiting_masses) 3159 m)

waiting_values :
    WaitsBetween measure.Delay 172030 172031
    × WaitsBetween measure.Queue 129023 129024
    × WaitsBetween measure.Wait 154827 154828
    × WaitsBetween (measure.Workload 0) 477022 477023
    × WaitsBetween (measure.Workload 1) 363969 363970
    × WaitsBetween (measure.Dispatch 0 0) 539283 539284
    × WaitsBetween measure.Travel 109193 109194
    × ContainsRatio 289378 289379 1000000 (full_share waiting (mass_in waiting_masses) 3159 0)
waiting_values = omega arith

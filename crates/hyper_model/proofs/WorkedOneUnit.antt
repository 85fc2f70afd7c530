-- A fleet of one unit, 300 seconds from its one atom, at several rates and with both lines. The masses of its two
-- words are to each other as the rate of service to the rate of the calls.
use Rattle.std.proofs.Common.{◌≡◌, ℕ, List, [], ◌∷◌, true, false, refl, arith}
use Rattle.hyper_model.specs.declared.kinds.Line.{Line}
use Rattle.hyper_model.specs.declared.kinds.Line.TheVariants as line
use Rattle.hyper_model.specs.declared.kinds.Rule.TheVariants as rule
use Rattle.hyper_model.specs.declared.kinds.Measure.{Measure}
use Rattle.hyper_model.specs.declared.kinds.Measure.TheVariants as measure
use Rattle.hyper_model.specs.declared.parts.PlanParts.{PlanParts}
use Rattle.hyper_model.specs.Measures.{is_without}
use Rattle.hyper_model.specs.Solutions.{IsSolution}
use Rattle.hyper_model.proofs.Worked.{each_below, LiesBetween, row_of_units}

-- unit A, in its atom P for all its free time, serves its own district
abbrev pub one_unit : Line → ℕ → ℕ → PlanParts
one_unit waits calls service = record {
  line = waits;
  rule = rule.Given;
  period = 3600;
  units = record { name = 65 ∷ []; rate = service } ∷ [];
  atoms = record { name = 80 ∷ []; rate = calls; x = 0; y = 0; district = 0 } ∷ [];
  lists = record { units = 1; rows = row_of_units (0 ∷ []) (true ∷ []) ∷ [] };
  located = record { rows = 1; cols = 1; cells = 1000 ∷ [] };
  travel = record { rows = 1; cols = 1; cells = 300 ∷ [] };
}

-- one call in the time of two services, and a call that finds the unit busy is lost
abbrev half_load : PlanParts
half_load = one_unit line.Zero 1 2

abbrev half_load_masses : List ℕ
half_load_masses = 2 ∷ 1 ∷ []

pub half_load_solution : IsSolution half_load half_load_masses 0
half_load_solution = record {
  words = record {
    one_each = refl;
    positive = omega arith;
    balanced = each_below 2 _ ((tt, refl), refl);
  };
  tail = refl;
}

abbrev half_load_between : Measure → ℕ → ℕ → Type 0
half_load_between = LiesBetween half_load half_load_masses 0

pub half_load_loss : half_load_between measure.Loss 333333 333334
half_load_loss = omega arith

pub half_load_waiting :
    half_load_between measure.Delay 0 0
    × half_load_between measure.Queue 0 0
    × half_load_between measure.Wait 0 0
half_load_waiting = omega arith

pub half_load_workload : half_load_between (measure.Workload 0) 333333 333334
half_load_workload = omega arith

pub half_load_dispatch : half_load_between (measure.Dispatch 0 0) 1000000 1000000
half_load_dispatch = omega arith

pub half_load_interdistrict :
    half_load_between measure.Interdistrict 0 0
    × half_load_between (measure.InterdistrictUnit 0) 0 0
    × half_load_between (measure.InterdistrictDistrict 0) 0 0
half_load_interdistrict = omega arith

pub half_load_travel :
    half_load_between measure.Travel 300000 300000
    × half_load_between (measure.TravelAtom 0) 300000 300000
    × half_load_between (measure.TravelUnit 0) 300000 300000
    × half_load_between (measure.TravelDistrict 0) 300000 300000
half_load_travel = omega arith

pub half_load_without :
    (is_without half_load (measure.InterdistrictDistrict 0) ≡ false)
    × (is_without half_load (measure.TravelDistrict 0) ≡ false)
half_load_without = (refl, refl)

-- one call in the time of three services, and a call that finds the unit busy is lost
abbrev third_load : PlanParts
third_load = one_unit line.Zero 1 3

abbrev third_load_masses : List ℕ
third_load_masses = 3 ∷ 1 ∷ []

pub third_load_solution : IsSolution third_load third_load_masses 0
third_load_solution = record {
  words = record {
    one_each = refl;
    positive = omega arith;
    balanced = each_below 2 _ ((tt, refl), refl);
  };
  tail = refl;
}

abbrev third_load_between : Measure → ℕ → ℕ → Type 0
third_load_between = LiesBetween third_load third_load_masses 0

pub third_load_loss : third_load_between measure.Loss 249999 250001
third_load_loss = omega arith

pub third_load_workload : third_load_between (measure.Workload 0) 249999 250001
third_load_workload = omega arith

pub third_load_dispatch : third_load_between (measure.Dispatch 0 0) 1000000 1000000
third_load_dispatch = omega arith

pub third_load_interdistrict :
    third_load_between measure.Interdistrict 0 0
    × third_load_between (measure.InterdistrictUnit 0) 0 0
    × third_load_between (measure.InterdistrictDistrict 0) 0 0
third_load_interdistrict = omega arith

pub third_load_travel :
    third_load_between measure.Travel 300000 300000
    × third_load_between (measure.TravelAtom 0) 300000 300000
    × third_load_between (measure.TravelUnit 0) 300000 300000
    × third_load_between (measure.TravelDistrict 0) 300000 300000
third_load_travel = omega arith

-- the same rates, and a call that finds the unit busy waits
abbrev short_queue : PlanParts
short_queue = one_unit line.Infinite 1 3

abbrev short_queue_masses : List ℕ
short_queue_masses = 6 ∷ 2 ∷ []

pub short_queue_solution : IsSolution short_queue short_queue_masses 1
short_queue_solution = record {
  words = record {
    one_each = refl;
    positive = omega arith;
    balanced = each_below 2 _ ((tt, refl), refl);
  };
  tail = refl;
}

abbrev short_queue_between : Measure → ℕ → ℕ → Type 0
short_queue_between = LiesBetween short_queue short_queue_masses 1

pub short_queue_loss : short_queue_between measure.Loss 0 0
short_queue_loss = omega arith

pub short_queue_waiting :
    short_queue_between measure.Delay 333333 333334
    × short_queue_between measure.Queue 166666 166667
    × short_queue_between measure.Wait 599999 600001
short_queue_waiting = omega arith

pub short_queue_workload : short_queue_between (measure.Workload 0) 333333 333334
short_queue_workload = omega arith

pub short_queue_dispatch : short_queue_between (measure.Dispatch 0 0) 999999 1000000
short_queue_dispatch = omega arith

pub short_queue_interdistrict :
    short_queue_between measure.Interdistrict 0 0
    × short_queue_between (measure.InterdistrictUnit 0) 0 0
    × short_queue_between (measure.InterdistrictDistrict 0) 0 0
short_queue_interdistrict = omega arith

pub short_queue_travel :
    short_queue_between measure.Travel 299999 300000
    × short_queue_between (measure.TravelAtom 0) 299999 300000
    × short_queue_between (measure.TravelUnit 0) 299999 300000
    × short_queue_between (measure.TravelDistrict 0) 299999 300000
short_queue_travel = omega arith

-- hardly less calls than service: nearly a million calls wait
abbrev long_queue : PlanParts
long_queue = one_unit line.Infinite 999999 1000000

abbrev long_queue_masses : List ℕ
long_queue_masses = 1000000 ∷ 999999 ∷ []

pub long_queue_solution : IsSolution long_queue long_queue_masses 999998000001
long_queue_solution = record {
  words = record {
    one_each = refl;
    positive = omega arith;
    balanced = each_below 2 _ ((tt, refl), refl);
  };
  tail = refl;
}

abbrev long_queue_between : Measure → ℕ → ℕ → Type 0
long_queue_between = LiesBetween long_queue long_queue_masses 999998000001

pub long_queue_waiting : long_queue_between measure.Queue 999998000000 999998000002
long_queue_waiting = omega arith

pub long_queue_workload : long_queue_between (measure.Workload 0) 999998 1000000
long_queue_workload = omega arith

-- ten calls in the time of one service, nearly all of them lost
abbrev overload : PlanParts
overload = one_unit line.Zero 10 1

abbrev overload_masses : List ℕ
overload_masses = 1 ∷ 10 ∷ []

pub overload_solution : IsSolution overload overload_masses 0
overload_solution = record {
  words = record {
    one_each = refl;
    positive = omega arith;
    balanced = each_below 2 _ ((tt, refl), refl);
  };
  tail = refl;
}

abbrev overload_between : Measure → ℕ → ℕ → Type 0
overload_between = LiesBetween overload overload_masses 0

pub overload_loss : overload_between measure.Loss 909090 909091
overload_loss = omega arith

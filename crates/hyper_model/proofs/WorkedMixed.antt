-- Two units with all that is equal in the simpler plans made unequal: rates of service and of calls, groups of one and
-- of two units, a unit in several atoms, a district of two atoms, travel times that differ by direction. The masses
-- stand in the order: none busy, A, B, both. The ends are the digits next to the exact values, which were computed
-- apart from the definitions, in fractions, as sums of shares and of mean times.
use Rattle.std.proofs.Common.{ℕ, List, [], ◌∷◌, true, false, refl, arith}
use Rattle.hyper_model.specs.declared.kinds.Line.{Line}
use Rattle.hyper_model.specs.declared.kinds.Line.TheVariants as line
use Rattle.hyper_model.specs.declared.kinds.Rule.TheVariants as rule
use Rattle.hyper_model.specs.declared.kinds.Measure.{Measure}
use Rattle.hyper_model.specs.declared.kinds.Measure.TheVariants as measure
use Rattle.hyper_model.specs.declared.parts.PlanParts.{PlanParts}
use Rattle.hyper_model.specs.Solutions.{IsSolution}
use Rattle.hyper_model.proofs.Worked.{each_below, LiesBetween, row_of_units}

-- P and R are of A's district, Q of B's. P asks for A first, R for B first, and Q takes either. A is in P for all its
-- free time, B in all three atoms.
abbrev pub mixed : Line → PlanParts
mixed waits = record {
  line = waits;
  rule = rule.Given;
  period = 3600;
  units = record { name = 65 ∷ []; rate = 3 } ∷ record { name = 66 ∷ []; rate = 2 } ∷ [];
  atoms =
      record { name = 80 ∷ []; rate = 2; x = 0; y = 0; district = 0 }
      ∷ record { name = 81 ∷ []; rate = 1; x = 9; y = 0; district = 1 }
      ∷ record { name = 82 ∷ []; rate = 1; x = 0; y = 5; district = 0 }
      ∷ [];
  lists = record {
    units = 2;
    rows =
        row_of_units (0 ∷ 1 ∷ []) (true ∷ true ∷ [])
        ∷ row_of_units (0 ∷ 1 ∷ []) (true ∷ false ∷ [])
        ∷ row_of_units (1 ∷ 0 ∷ []) (true ∷ true ∷ [])
        ∷ [];
  };
  located = record { rows = 2; cols = 3; cells = 1000 ∷ 0 ∷ 0 ∷ 250 ∷ 600 ∷ 150 ∷ [] };
  travel = record { rows = 3; cols = 3; cells = 60 ∷ 200 ∷ 110 ∷ 300 ∷ 90 ∷ 170 ∷ 140 ∷ 210 ∷ 50 ∷ [] };
}

abbrev mixed_masses : List ℕ
mixed_masses = 52 ∷ 38 ∷ 47 ∷ 68 ∷ []

-- a call that finds both busy is lost
abbrev mixed_lost : PlanParts
mixed_lost = mixed line.Zero

pub mixed_lost_solution : IsSolution mixed_lost mixed_masses 0
mixed_lost_solution = record {
  words = record {
    one_each = refl;
    positive = omega arith;
    balanced = each_below 4 _ ((((tt, refl), refl), refl), refl);
  };
  tail = refl;
}

abbrev mixed_lost_between : Measure → ℕ → ℕ → Type 0
mixed_lost_between = LiesBetween mixed_lost mixed_masses 0

pub mixed_lost_loss : mixed_lost_between measure.Loss 331707 331708
mixed_lost_loss = omega arith

pub mixed_lost_workload :
    mixed_lost_between (measure.Workload 0) 517073 517074
    × mixed_lost_between (measure.Workload 1) 560975 560976
mixed_lost_workload = omega arith

pub mixed_lost_dispatch :
    mixed_lost_between (measure.Dispatch 0 0) 361313 361314
    × mixed_lost_between (measure.Dispatch 0 1) 133211 133212
    × mixed_lost_between (measure.Dispatch 0 2) 85766 85767
    × mixed_lost_between (measure.Dispatch 1 0) 138686 138687
    × mixed_lost_between (measure.Dispatch 1 1) 116788 116789
    × mixed_lost_between (measure.Dispatch 1 2) 164233 164234
mixed_lost_dispatch = omega arith

pub mixed_lost_interdistrict :
    mixed_lost_between measure.Interdistrict 436131 436132
    × mixed_lost_between (measure.InterdistrictUnit 0) 229559 229560
    × mixed_lost_between (measure.InterdistrictUnit 1) 721739 721740
    × mixed_lost_between (measure.InterdistrictDistrict 0) 403892 403893
    × mixed_lost_between (measure.InterdistrictDistrict 1) 532846 532847
mixed_lost_interdistrict = omega arith

pub mixed_lost_travel :
    mixed_lost_between measure.Travel 126036 126037
    × mixed_lost_between (measure.TravelAtom 0) 103270 103271
    × mixed_lost_between (measure.TravelAtom 1) 169868 169869
    × mixed_lost_between (measure.TravelAtom 2) 127737 127738
    × mixed_lost_between (measure.TravelUnit 0) 99528 99529
    × mixed_lost_between (measure.TravelUnit 1) 162686 162687
    × mixed_lost_between (measure.TravelDistrict 0) 111425 111426
    × mixed_lost_between (measure.TravelDistrict 1) 169868 169869
mixed_lost_travel = omega arith

-- a call that finds both busy waits
abbrev mixed_queued : PlanParts
mixed_queued = mixed line.Infinite

pub mixed_queued_solution : IsSolution mixed_queued mixed_masses 272
mixed_queued_solution = record {
  words = record {
    one_each = refl;
    positive = omega arith;
    balanced = each_below 4 _ ((((tt, refl), refl), refl), refl);
  };
  tail = refl;
}

abbrev mixed_queued_between : Measure → ℕ → ℕ → Type 0
mixed_queued_between = LiesBetween mixed_queued mixed_masses 272

pub mixed_queued_waiting :
    mixed_queued_between measure.Delay 712788 712789
    × mixed_queued_between measure.Queue 2851153 2851154
    × mixed_queued_between measure.Wait 2566037 2566038
mixed_queued_waiting = omega arith

pub mixed_queued_workload :
    mixed_queued_between (measure.Workload 0) 792452 792453
    × mixed_queued_between (measure.Workload 1) 811320 811321
mixed_queued_workload = omega arith

pub mixed_queued_dispatch :
    mixed_queued_between (measure.Dispatch 0 0) 317610 317611
    × mixed_queued_between (measure.Dispatch 0 1) 145178 145179
    × mixed_queued_between (measure.Dispatch 0 2) 131551 131552
    × mixed_queued_between (measure.Dispatch 1 0) 182389 182390
    × mixed_queued_between (measure.Dispatch 1 1) 104821 104822
    × mixed_queued_between (measure.Dispatch 1 2) 118448 118449
mixed_queued_dispatch = omega arith

pub mixed_queued_interdistrict :
    mixed_queued_between measure.Interdistrict 446016 446017
    × mixed_queued_between (measure.InterdistrictUnit 0) 244268 244269
    × mixed_queued_between (measure.InterdistrictUnit 1) 741602 741603
    × mixed_queued_between (measure.InterdistrictDistrict 0) 401118 401119
    × mixed_queued_between (measure.InterdistrictDistrict 1) 580712 580713
mixed_queued_interdistrict = omega arith

pub mixed_queued_travel :
    mixed_queued_between measure.Travel 136880 136881
    × mixed_queued_between (measure.TravelAtom 0) 129450 129451
    × mixed_queued_between (measure.TravelAtom 1) 173526 173527
    × mixed_queued_between (measure.TravelAtom 2) 115094 115095
    × mixed_queued_between (measure.TravelUnit 0) 129550 129551
    × mixed_queued_between (measure.TravelUnit 1) 147620 147621
    × mixed_queued_between (measure.TravelDistrict 0) 124665 124666
    × mixed_queued_between (measure.TravelDistrict 1) 173526 173527
mixed_queued_travel = omega arith

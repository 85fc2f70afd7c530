-- Two units of equal rates, and a call that finds both busy is lost: with lists that begin with the own unit, with
-- one group, and with only one atom. The masses stand in the order: none busy, A, B, both.
use Rattle.std.proofs.Common.{◌≡◌, ℕ, List, [], ◌∷◌, true, false, refl, arith}
use Rattle.hyper_model.specs.declared.kinds.Line.TheVariants as line
use Rattle.hyper_model.specs.declared.kinds.Rule.TheVariants as rule
use Rattle.hyper_model.specs.declared.kinds.Measure.{Measure}
use Rattle.hyper_model.specs.declared.kinds.Measure.TheVariants as measure
use Rattle.hyper_model.specs.Groups.{AtomList}
use Rattle.hyper_model.specs.declared.parts.PlanParts.{PlanParts}
use Rattle.hyper_model.specs.Measures.{is_without}
use Rattle.hyper_model.specs.Solutions.{IsSolution}
use Rattle.hyper_model.proofs.Worked.{each_below, LiesBetween, row_of_units}

-- unit A is in its atom P, unit B in its atom Q; within an atom 60 seconds, between them 300
abbrev two_districts : AtomList → AtomList → PlanParts
two_districts list_of_p list_of_q = record {
  line = line.Zero;
  rule = rule.Given;
  period = 3600;
  units = record { name = 65 ∷ []; rate = 3 } ∷ record { name = 66 ∷ []; rate = 3 } ∷ [];
  atoms =
      record { name = 80 ∷ []; rate = 1; x = 0; y = 0; district = 0 }
      ∷ record { name = 81 ∷ []; rate = 1; x = 9; y = 0; district = 1 }
      ∷ [];
  lists = record { units = 2; rows = list_of_p ∷ list_of_q ∷ [] };
  located = record { rows = 2; cols = 2; cells = 1000 ∷ 0 ∷ 0 ∷ 1000 ∷ [] };
  travel = record { rows = 2; cols = 2; cells = 60 ∷ 300 ∷ 300 ∷ 60 ∷ [] };
}

-- either of the two units, with equal probability
abbrev either_unit : AtomList
either_unit = row_of_units (0 ∷ 1 ∷ []) (true ∷ false ∷ [])

-- a call goes to the unit of its district if that is free, else to the other
abbrev opposite_lists : PlanParts
opposite_lists =
    two_districts (row_of_units (0 ∷ 1 ∷ []) (true ∷ true ∷ [])) (row_of_units (1 ∷ 0 ∷ []) (true ∷ true ∷ []))

abbrev opposite_lists_masses : List ℕ
opposite_lists_masses = 9 ∷ 3 ∷ 3 ∷ 2 ∷ []

pub opposite_lists_solution : IsSolution opposite_lists opposite_lists_masses 0
opposite_lists_solution = record {
  words = record {
    one_each = refl;
    positive = omega arith;
    balanced = each_below 4 _ ((((tt, refl), refl), refl), refl);
  };
  tail = refl;
}

abbrev opposite_lists_between : Measure → ℕ → ℕ → Type 0
opposite_lists_between = LiesBetween opposite_lists opposite_lists_masses 0

pub opposite_lists_loss : opposite_lists_between measure.Loss 117647 117648
opposite_lists_loss = omega arith

pub opposite_lists_workload :
    opposite_lists_between (measure.Workload 0) 294117 294118
    × opposite_lists_between (measure.Workload 1) 294117 294118
opposite_lists_workload = omega arith

pub opposite_lists_dispatch :
    opposite_lists_between (measure.Dispatch 0 0) 399999 400001
    × opposite_lists_between (measure.Dispatch 0 1) 99999 100001
    × opposite_lists_between (measure.Dispatch 1 0) 99999 100001
    × opposite_lists_between (measure.Dispatch 1 1) 399999 400001
opposite_lists_dispatch = omega arith

pub opposite_lists_interdistrict :
    opposite_lists_between measure.Interdistrict 199999 200001
    × opposite_lists_between (measure.InterdistrictUnit 0) 199999 200001
    × opposite_lists_between (measure.InterdistrictUnit 1) 199999 200001
    × opposite_lists_between (measure.InterdistrictDistrict 0) 199999 200001
    × opposite_lists_between (measure.InterdistrictDistrict 1) 199999 200001
opposite_lists_interdistrict = omega arith

pub opposite_lists_travel :
    opposite_lists_between measure.Travel 107999 108001
    × opposite_lists_between (measure.TravelAtom 0) 107999 108001
    × opposite_lists_between (measure.TravelAtom 1) 107999 108001
    × opposite_lists_between (measure.TravelUnit 0) 107999 108001
    × opposite_lists_between (measure.TravelUnit 1) 107999 108001
    × opposite_lists_between (measure.TravelDistrict 0) 107999 108001
    × opposite_lists_between (measure.TravelDistrict 1) 107999 108001
opposite_lists_travel = omega arith

pub opposite_lists_without :
    (is_without opposite_lists (measure.InterdistrictDistrict 0) ≡ false)
    × (is_without opposite_lists (measure.TravelDistrict 1) ≡ false)
opposite_lists_without = (refl, refl)

-- a call goes to either free unit
abbrev common_group : PlanParts
common_group = two_districts either_unit either_unit

abbrev common_group_masses : List ℕ
common_group_masses = 9 ∷ 3 ∷ 3 ∷ 2 ∷ []

pub common_group_solution : IsSolution common_group common_group_masses 0
common_group_solution = record {
  words = record {
    one_each = refl;
    positive = omega arith;
    balanced = each_below 4 _ ((((tt, refl), refl), refl), refl);
  };
  tail = refl;
}

abbrev common_group_between : Measure → ℕ → ℕ → Type 0
common_group_between = LiesBetween common_group common_group_masses 0

pub common_group_loss : common_group_between measure.Loss 117647 117648
common_group_loss = omega arith

pub common_group_workload :
    common_group_between (measure.Workload 0) 294117 294118
    × common_group_between (measure.Workload 1) 294117 294118
common_group_workload = omega arith

pub common_group_dispatch :
    common_group_between (measure.Dispatch 0 0) 249999 250001
    × common_group_between (measure.Dispatch 0 1) 249999 250001
    × common_group_between (measure.Dispatch 1 0) 249999 250001
    × common_group_between (measure.Dispatch 1 1) 249999 250001
common_group_dispatch = omega arith

pub common_group_interdistrict :
    common_group_between measure.Interdistrict 499999 500001
    × common_group_between (measure.InterdistrictUnit 0) 499999 500001
    × common_group_between (measure.InterdistrictUnit 1) 499999 500001
    × common_group_between (measure.InterdistrictDistrict 0) 499999 500001
    × common_group_between (measure.InterdistrictDistrict 1) 499999 500001
common_group_interdistrict = omega arith

pub common_group_travel :
    common_group_between measure.Travel 179999 180001
    × common_group_between (measure.TravelAtom 0) 179999 180001
    × common_group_between (measure.TravelAtom 1) 179999 180001
    × common_group_between (measure.TravelUnit 0) 179999 180001
    × common_group_between (measure.TravelUnit 1) 179999 180001
    × common_group_between (measure.TravelDistrict 0) 179999 180001
    × common_group_between (measure.TravelDistrict 1) 179999 180001
common_group_travel = omega arith

-- all calls come from one atom, of A's district, and ask for A first; unit B has no district
abbrev one_atom : PlanParts
one_atom = record {
  line = line.Zero;
  rule = rule.Given;
  period = 3600;
  units = record { name = 65 ∷ []; rate = 3 } ∷ record { name = 66 ∷ []; rate = 3 } ∷ [];
  atoms = record { name = 80 ∷ []; rate = 2; x = 0; y = 0; district = 0 } ∷ [];
  lists = record { units = 2; rows = row_of_units (0 ∷ 1 ∷ []) (true ∷ true ∷ []) ∷ [] };
  located = record { rows = 2; cols = 1; cells = 1000 ∷ 1000 ∷ [] };
  travel = record { rows = 1; cols = 1; cells = 300 ∷ [] };
}

abbrev one_atom_masses : List ℕ
one_atom_masses = 45 ∷ 24 ∷ 6 ∷ 10 ∷ []

pub one_atom_solution : IsSolution one_atom one_atom_masses 0
one_atom_solution = record {
  words = record {
    one_each = refl;
    positive = omega arith;
    balanced = each_below 4 _ ((((tt, refl), refl), refl), refl);
  };
  tail = refl;
}

abbrev one_atom_between : Measure → ℕ → ℕ → Type 0
one_atom_between = LiesBetween one_atom one_atom_masses 0

pub one_atom_loss : one_atom_between measure.Loss 117647 117648
one_atom_loss = omega arith

pub one_atom_workload :
    one_atom_between (measure.Workload 0) 399999 400001
    × one_atom_between (measure.Workload 1) 188235 188236
one_atom_workload = omega arith

pub one_atom_without :
    (is_without one_atom (measure.InterdistrictDistrict 1) ≡ true)
    × (is_without one_atom (measure.TravelDistrict 1) ≡ true)
    × (is_without one_atom (measure.InterdistrictDistrict 0) ≡ false)
    × (is_without one_atom (measure.TravelUnit 1) ≡ false)
one_atom_without = (refl, refl, refl, refl)

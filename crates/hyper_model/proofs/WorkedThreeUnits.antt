-- Three units that have next to nothing to do. All are in the one atom of A's district, whose calls ask for A, then B,
-- then C: the last of the list is busy with a positive share, and B and C have no district.
use Rattle.std.proofs.Common.{◌≡◌, ℕ, List, [], ◌∷◌, true, false, refl, arith}
use Rattle.hyper_model.specs.declared.kinds.Line.TheVariants as line
use Rattle.hyper_model.specs.declared.kinds.Rule.TheVariants as rule
use Rattle.hyper_model.specs.declared.kinds.Measure.{Measure}
use Rattle.hyper_model.specs.declared.kinds.Measure.TheVariants as measure
use Rattle.hyper_model.specs.declared.parts.PlanParts.{PlanParts}
use Rattle.hyper_model.specs.Measures.{is_without}
use Rattle.hyper_model.specs.Solutions.{IsSolution}
use Rattle.hyper_model.proofs.Worked.{each_below, LiesBetween, row_of_units}

-- one call in the time of 300,000 services of each unit
abbrev rare_calls : PlanParts
rare_calls = record {
  line = line.Zero;
  rule = rule.Given;
  period = 3600;
  units =
      record { name = 65 ∷ []; rate = 300000 }
      ∷ record { name = 66 ∷ []; rate = 300000 }
      ∷ record { name = 67 ∷ []; rate = 300000 }
      ∷ [];
  atoms = record { name = 80 ∷ []; rate = 1; x = 0; y = 0; district = 0 } ∷ [];
  lists = record { units = 3; rows = row_of_units (0 ∷ 1 ∷ 2 ∷ []) (true ∷ true ∷ true ∷ []) ∷ [] };
  located = record { rows = 3; cols = 1; cells = 1000 ∷ 1000 ∷ 1000 ∷ [] };
  travel = record { rows = 1; cols = 1; cells = 300 ∷ [] };
}

abbrev rare_calls_masses : List ℕ
rare_calls_masses =
    5248843740145800243000162000000000000000
    ∷ 17496116640324000432000180000000000
    ∷ 29160129600216000180000000000
    ∷ 29160210600540000630000300000
    ∷ 32400162000180000000000
    ∷ 16200162000450000300000
    ∷ 16200108000270000300000
    ∷ 32400270000900001500001
    ∷ []

pub rare_calls_solution : IsSolution rare_calls rare_calls_masses 0
rare_calls_solution = record {
  words = record {
    one_each = refl;
    positive = omega arith;
    balanced = each_below 8 _ ((((((((tt, refl), refl), refl), refl), refl), refl), refl), refl);
  };
  tail = refl;
}

abbrev rare_calls_between : Measure → ℕ → ℕ → Type 0
rare_calls_between = LiesBetween rare_calls rare_calls_masses 0

pub rare_calls_interdistrict : rare_calls_between (measure.InterdistrictUnit 1) 1000000 1000000
rare_calls_interdistrict = omega arith

pub rare_calls_travel : rare_calls_between (measure.TravelUnit 2) 299987 300000
rare_calls_travel = omega arith

pub rare_calls_without :
    (is_without rare_calls (measure.InterdistrictDistrict 1) ≡ true)
    × (is_without rare_calls (measure.TravelDistrict 1) ≡ true)
    × (is_without rare_calls (measure.InterdistrictDistrict 2) ≡ true)
    × (is_without rare_calls (measure.TravelDistrict 2) ≡ true)
    × (is_without rare_calls (measure.TravelDistrict 0) ≡ false)
rare_calls_without = (refl, refl, refl, refl, refl)

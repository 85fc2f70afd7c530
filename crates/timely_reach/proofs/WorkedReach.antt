-- One unit, six tenths of its free time at P and four at Q, and trips of a minute within an atom and of five between them. Three
-- of four calls come from P. Within a minute six of ten calls of P are reached by a unit that was free, and four of Q.
use Rattle.std.proofs.Common.{ℕ, List, [], ◌∷◌, true, refl, arith}
use Rattle.hyper_model.specs.declared.kinds.Line.{Line}
use Rattle.hyper_model.specs.declared.kinds.Line.TheVariants as line
use Rattle.hyper_model.specs.declared.kinds.Rule.TheVariants as rule
use Rattle.hyper_model.specs.declared.parts.PlanParts.{PlanParts}
use Rattle.hyper_model.specs.Solutions.{IsSolution, mass_in}
use Rattle.hyper_model.specs.Measures.{ContainsRatio}
use Rattle.hyper_model.proofs.Worked.{each_below, row_of_units}
use Rattle.timely_reach.specs.declared.kinds.ReachMeasure.{ReachMeasure}
use Rattle.timely_reach.specs.declared.kinds.ReachMeasure.TheVariants as measure
use Rattle.timely_reach.specs.Reach.{reached_of}

abbrev two_atoms : Line → ℕ → PlanParts
two_atoms line service = record {
  line = line;
  rule = rule.Given;
  period = 3600;
  units = record { name = 65 ∷ []; rate = service } ∷ [];
  atoms = record { name = 80 ∷ []; rate = 3; x = 0; y = 0; district = 0 }
      ∷ record { name = 81 ∷ []; rate = 1; x = 900; y = 0; district = 0 }
      ∷ [];
  lists = record { units = 1; rows = row_of_units (0 ∷ []) (true ∷ []) ∷ row_of_units (0 ∷ []) (true ∷ []) ∷ [] };
  located = record { rows = 1; cols = 2; cells = 600 ∷ 400 ∷ [] };
  travel = record { rows = 2; cols = 2; cells = 60 ∷ 300 ∷ 300 ∷ 60 ∷ [] };
}

-- the share within so many seconds is this many millionths
abbrev IsReached : PlanParts → List ℕ → ℕ → ℕ → ReachMeasure → ℕ → Type 0
IsReached p xs z limit m millionths = ContainsRatio millionths millionths 1000000 (reached_of p (mass_in xs) z limit m)

-- as many calls as service: each second call is lost
abbrev lost : PlanParts
lost = two_atoms line.Zero 4

abbrev lost_masses : List ℕ
lost_masses = 1 ∷ 1 ∷ []

lost_solution : IsSolution lost lost_masses 0
lost_solution = record {
  words = record { one_each = refl; positive = omega arith; balanced = each_below 2 _ ((tt, refl), refl) };
  tail = refl;
}

lost_region : IsReached lost lost_masses 0 60 measure.Region 550000
lost_region = omega arith

lost_all : IsReached lost lost_masses 0 60 measure.All 275000
lost_all = omega arith

lost_atoms : IsReached lost lost_masses 0 60 (measure.Atom 0) 600000 × IsReached lost lost_masses 0 60 (measure.Atom 1) 400000
lost_atoms = omega arith

lost_unit : IsReached lost lost_masses 0 60 (measure.Unit 0) 550000
lost_unit = omega arith

-- a second less is in time for none, and five minutes for all
lost_sooner : IsReached lost lost_masses 0 59 measure.Region 0
lost_sooner = omega arith

lost_later : IsReached lost lost_masses 0 300 measure.Region 1000000
lost_later = omega arith

-- Half the calls wait. After a call in P the next one is reached within a minute if it is in P too, as ten of sixteen times.
abbrev waiting : PlanParts
waiting = two_atoms line.Infinite 8

abbrev waiting_masses : List ℕ
waiting_masses = 2 ∷ 1 ∷ []

waiting_solution : IsSolution waiting waiting_masses 1
waiting_solution = record {
  words = record { one_each = refl; positive = omega arith; balanced = each_below 2 _ ((tt, refl), refl) };
  tail = refl;
}

waiting_region : IsReached waiting waiting_masses 1 60 measure.Region 587500
waiting_region = omega arith

waiting_all : IsReached waiting waiting_masses 1 60 measure.All 587500
waiting_all = omega arith

waiting_at_once : IsReached waiting waiting_masses 1 60 measure.AtOnce 275000
waiting_at_once = omega arith

waiting_district : IsReached waiting waiting_masses 1 60 (measure.District 0) 587500
waiting_district = omega arith

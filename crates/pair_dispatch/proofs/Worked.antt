-- Two units with areas of their own, worked by hand: a unit serves 3 calls in the time in which one call comes from each
-- atom. The masses stand in the order: none busy, A, B, both.
use Rattle.std.proofs.Common.{◌≡◌, ℕ, List, [], ◌∷◌, true, refl, arith}
use Rattle.hyper_model.specs.declared.kinds.Line.TheVariants as line
use Rattle.hyper_model.specs.declared.kinds.Rule.TheVariants as rule
use Rattle.hyper_model.specs.declared.parts.PlanParts.{PlanParts}
use Rattle.hyper_model.specs.Measures.{Ratio}
use Rattle.hyper_model.specs.Solutions.{mass_in}
use Rattle.hyper_model.proofs.Worked.{each_below, row_of_units}
use Rattle.pair_dispatch.specs.declared.measure.PairMeasure.TheVariants as measure
use Rattle.pair_dispatch.specs.PairMeasures.{ratio_of}
use Rattle.pair_dispatch.specs.PairRates.{IsPairSolution, after_one, after_two, pair_table}

abbrev two_units : PlanParts
two_units = record {
  line = line.Zero;
  rule = rule.Given;
  period = 3600;
  units = record { name = 65 ∷ []; rate = 3 } ∷ record { name = 66 ∷ []; rate = 3 } ∷ [];
  atoms =
      record { name = 80 ∷ []; rate = 1; x = 0; y = 0; district = 0 }
      ∷ record { name = 81 ∷ []; rate = 1; x = 9; y = 0; district = 1 }
      ∷ [];
  lists = record { units = 2; rows = row_of_units (0 ∷ 1 ∷ []) (true ∷ true ∷ []) ∷ row_of_units (1 ∷ 0 ∷ []) (true ∷ true ∷ []) ∷ [] };
  located = record { rows = 2; cols = 2; cells = 1000 ∷ 0 ∷ 0 ∷ 1000 ∷ [] };
  travel = record { rows = 2; cols = 2; cells = 60 ∷ 300 ∷ 300 ∷ 60 ∷ [] };
}

-- with both units free a call for one sends the unit of its atom, and a call for two sends both
one_sent : after_one two_units 1 0 ≡ 2
one_sent = refl

both_sent : after_two two_units 1 0 ≡ 3
both_sent = refl

-- with only B free it goes alone, and with none free the call is lost
last_sent : after_two two_units 0 1 ≡ 3
last_sent = refl

none_sent : after_two two_units 0 3 ≡ 3
none_sent = refl

-- of a hundred calls twenty need two units: the calls of Q that need one, those of both atoms that need two, all calls to
-- the last free unit, and the end of a service
to_one : pair_table two_units 20 0 2 ≡ 80
to_one = refl

to_both : pair_table two_units 20 0 3 ≡ 40
to_both = refl

to_last : pair_table two_units 20 1 3 ≡ 200
to_last = refl

to_free : pair_table two_units 20 3 1 ≡ 300
to_free = refl

-- all calls need two units
abbrev all_masses : List ℕ
all_masses = 9 ∷ 3 ∷ 3 ∷ 5 ∷ []

all_balance : IsPairSolution two_units 100 all_masses
all_balance = record {
  one_each = refl;
  solves = record { positive = omega arith; balanced = each_below 4 _ ((((tt, refl), refl), refl), refl) };
}

abbrev ratio : ℕ → ℕ → Ratio
ratio a b = record { numerator = a; denominator = b }

all_loss : ratio_of two_units (mass_in all_masses) measure.Loss ≡ ratio 5 20
all_loss = refl

all_short : ratio_of two_units (mass_in all_masses) measure.Short ≡ ratio 6 20
all_short = refl

all_workload : ratio_of two_units (mass_in all_masses) (measure.Workload 1) ≡ ratio 8 20
all_workload = refl

all_pairs : ratio_of two_units (mass_in all_masses) (measure.Pair 0 1) ≡ ratio 18 18
all_pairs = refl

-- none does
none_balance : IsPairSolution two_units 0 (9 ∷ 3 ∷ 3 ∷ 2 ∷ [])
none_balance = record {
  one_each = refl;
  solves = record { positive = omega arith; balanced = each_below 4 _ ((((tt, refl), refl), refl), refl) };
}

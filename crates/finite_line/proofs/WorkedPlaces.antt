-- A fleet of one unit with one waiting place and half its load, and with two places and ten times its load: each state has
-- calls / service times the mass of the one before it.
use Rattle.std.proofs.Common.{◌≡◌, ℕ, zero, suc, ◌+◌, ◌*◌, List, [], ◌∷◌, true, refl, arith}
use Rattle.hyper_model.specs.declared.kinds.Line.TheVariants as line
use Rattle.hyper_model.specs.declared.kinds.Rule.TheVariants as rule
use Rattle.hyper_model.specs.declared.parts.PlanParts.{PlanParts}
use Rattle.hyper_model.specs.Plans.{all_calls, all_service}
use Rattle.hyper_model.specs.Solutions.{mass_in}
use Rattle.hyper_model.specs.Measures.{ContainsRatio}
use Rattle.hyper_model.proofs.Worked.{each_below, row_of_units}
use Rattle.finite_line.specs.declared.kinds.FiniteMeasure.{FiniteMeasure}
use Rattle.finite_line.specs.declared.kinds.FiniteMeasure.TheVariants as measure
use Rattle.finite_line.specs.FiniteMeasures.{finite_ratio, finite_scale}
use Rattle.finite_line.specs.FiniteSolutions.{IsFiniteSolution, queue_mass}

-- unit A, in its atom P for all its free time, and calls that are lost where no place is given
abbrev unit_with : ℕ → ℕ → PlanParts
unit_with calls service = record {
  line = line.Zero;
  rule = rule.Given;
  period = 3600;
  units = record { name = 65 ∷ []; rate = service } ∷ [];
  atoms = record { name = 80 ∷ []; rate = calls; x = 0; y = 0; district = 0 } ∷ [];
  lists = record { units = 1; rows = row_of_units (0 ∷ []) (true ∷ []) ∷ [] };
  located = record { rows = 1; cols = 1; cells = 1000 ∷ [] };
  travel = record { rows = 1; cols = 1; cells = 300 ∷ [] };
}

-- the measure lies between lo and hi, counted in its last printed digit
abbrev LiesBetween : PlanParts → ℕ → List ℕ → List ℕ → FiniteMeasure → ℕ → ℕ → Type 0
LiesBetween p room xs qs m lo hi =
    ContainsRatio lo hi (finite_scale m) (finite_ratio p room (mass_in xs) (queue_mass p xs qs) m)

-- one call in the time of two services, and one waiting place
abbrev half_load : PlanParts
half_load = unit_with 1 2

abbrev half_load_words : List ℕ
half_load_words = 4 ∷ 2 ∷ []

abbrev half_load_waiting : List ℕ
half_load_waiting = 1 ∷ []

one_place : (k : ℕ) → k + 1 ≡ 1
    → queue_mass half_load half_load_words half_load_waiting (k + 1) * all_service half_load
    ≡ all_calls half_load * queue_mass half_load half_load_words half_load_waiting k
one_place zero is_last = refl
one_place (suc k) is_last = absurd (omega arith)

half_load_solution : IsFiniteSolution half_load 1 half_load_words half_load_waiting
half_load_solution = record {
  one_each = refl;
  one_each_place = refl;
  positive = omega arith;
  balanced = record {
    nobody_waits = refl;
    not_full = each_below 2 _ ((tt, λ ne. refl), λ ne. absurd (ne refl));
    full = refl;
    between = λ k below. absurd (omega arith);
    last = one_place;
  };
}

abbrev half_load_between : FiniteMeasure → ℕ → ℕ → Type 0
half_load_between = LiesBetween half_load 1 half_load_words half_load_waiting

half_load_shares :
    half_load_between measure.Lost 142857 142858
    × half_load_between measure.Delayed 285714 285715
    × half_load_between measure.Busy 428571 428572
    × half_load_between (measure.Workload 0) 428571 428572
half_load_shares = omega arith

half_load_queue : half_load_between measure.Queue 142857 142858
half_load_queue = omega arith

-- of seven calls one is lost, and two of the six others wait, for half of the period each
half_load_wait : half_load_between measure.Wait 600000 600000
half_load_wait = omega arith

-- ten calls in the time of a service, and two waiting places
abbrev over_load : PlanParts
over_load = unit_with 10 1

abbrev over_load_between : FiniteMeasure → ℕ → ℕ → Type 0
over_load_between = LiesBetween over_load 2 (1 ∷ 10 ∷ []) (100 ∷ 1000 ∷ [])

over_load_shares :
    over_load_between measure.Lost 900090 900091
    × over_load_between measure.Delayed 99009 99010
    × over_load_between measure.Busy 999099 999100
over_load_shares = omega arith

over_load_queue : over_load_between measure.Queue 1890189 1890190
over_load_queue = omega arith

over_load_wait : over_load_between measure.Wait 6810810 6810811
over_load_wait = omega arith

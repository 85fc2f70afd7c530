-- The measures of calls that may need two units, each as a numerator over a denominator. x(w) is the mass of the word w.
use Rattle.std.specs.Prelude.{◌≡◌, ℕ, ◌+◌, ◌*◌, ◌<◌, ◌==◌, Bool, true, ◌&&◌, nat_le, if◌then◌else◌, List, All}
use Rattle.hyper_model.specs.declared.parts.PlanParts.{PlanParts}
use Rattle.hyper_model.specs.Sums.{sum_below}
use Rattle.hyper_model.specs.Plans.{units, atoms, calls_of, all_calls}
use Rattle.hyper_model.specs.Words.{words, full_word, is_busy, turned_word}
use Rattle.hyper_model.specs.Laws.{level}
use Rattle.hyper_model.specs.Measures.{Ratio, ContainsRatio}
use Rattle.hyper_model.specs.Solutions.{mass_in}
use Rattle.pair_dispatch.specs.declared.measure.PairMeasure.{PairMeasure}
use Rattle.pair_dispatch.specs.declared.measure.PairMeasure.TheVariants as measure
use Rattle.pair_dispatch.specs.declared.measure.PairEnds.{PairEnds}
use Rattle.pair_dispatch.specs.PairRates.{IsPairSolution, after_two}

-- exactly one unit is free, or at least two are
abbrev pub has_one_free : PlanParts → ℕ → Bool
has_one_free p word = level (units p) word + 1 == units p

abbrev pub has_two_free : PlanParts → ℕ → Bool
has_two_free p word = nat_le (level (units p) word + 2) (units p)

-- at least two units are free, and a call of atom j that needs two is sent a and b: after it just these two have changed
abbrev pub sends_both : PlanParts → ℕ → ℕ → ℕ → ℕ → Bool
sends_both p j a b word = has_two_free p word && (after_two p j word == turned_word (turned_word word a) b)

-- the mass of the words that pass a test
abbrev pub mass_where : PlanParts → (ℕ → Bool) → (ℕ → ℕ) → ℕ
mass_where p test x = sum_below (words p) (λ w. if test w then x w else 0)

-- Loss, Short and Workload are shares of all words: of the full word, of those with one free unit, of those in which
-- the unit is busy. Pair is the share of a and b among the calls that need two units and find two free.
abbrev pub ratio_of : PlanParts → (ℕ → ℕ) → PairMeasure → Ratio
ratio_of p x measure.Loss = record { numerator = x (full_word p); denominator = sum_below (words p) x }
ratio_of p x measure.Short = record { numerator = mass_where p (has_one_free p) x; denominator = sum_below (words p) x }
ratio_of p x (measure.Workload n) =
    record { numerator = mass_where p (λ w. is_busy w n) x; denominator = sum_below (words p) x }
ratio_of p x (measure.Pair a b) = record {
  numerator = sum_below (atoms p) (λ j. calls_of p j * mass_where p (sends_both p j a b) x);
  denominator = all_calls p * mass_where p (has_two_free p) x;
}

-- the units are the plan's, and the first of two comes before the second
abbrev pub IsOfUnits : PlanParts → PairMeasure → Type 0
IsOfUnits p measure.Loss = Prim.Unit {0}
IsOfUnits p measure.Short = Prim.Unit {0}
IsOfUnits p (measure.Workload n) = n < units p
IsOfUnits p (measure.Pair a b) = (a < b) × (b < units p)

-- each ends in millionths contain their measure, and its denominator is not 0
pub record IsContained (p : PlanParts) (x : ℕ → ℕ) (e : PairEnds) : Type 0 where
  pub positive : 0 < (ratio_of p x e.measure).denominator
  pub within : ContainsRatio e.lo e.hi 1000000 (ratio_of p x e.measure)

-- whatever solution the masses are taken from
abbrev pub ContainsSolutions : PlanParts → ℕ → List PairEnds → Type 0
ContainsSolutions p percent items =
    (xs : List ℕ) → IsPairSolution p percent xs → All (IsContained p (mass_in xs)) items

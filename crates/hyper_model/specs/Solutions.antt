-- Solutions of the balance equations: whole numbers as the masses of the words, and of the states in which
-- a call waits.
use Rattle.std.specs.Prelude.{◌≡◌, ℕ, ◌-◌, ◌*◌, ◌<◌, List, length, slice_index}
use Rattle.hyper_model.specs.declared.kinds.Line.{Line}
use Rattle.hyper_model.specs.declared.kinds.Line.TheVariants as line
use Rattle.hyper_model.specs.declared.parts.PlanParts.{PlanParts}
use Rattle.hyper_model.specs.Sums.{sum_below}
use Rattle.hyper_model.specs.Plans.{all_calls, all_service}
use Rattle.hyper_model.specs.Words.{words, full_word}
use Rattle.hyper_model.specs.Rates.{IsBalancedWord}

-- the masses in a list, by the number of the word
abbrev pub mass_in : List ℕ → ℕ → ℕ
mass_in xs word = slice_index xs word

-- the words' masses, not all 0, balance at every word
pub record SolvesWords (p : PlanParts) (xs : List ℕ) : Type 0 where
  pub one_each : length xs ≡ words p
  pub positive : 0 < sum_below (words p) (mass_in xs)
  pub balanced : (word : ℕ) → word < words p → IsBalancedWord p (mass_in xs) word

-- z is the mass of all states in which a call waits
abbrev pub IsTail : Line → PlanParts → List ℕ → ℕ → Type 0
IsTail line.Zero p xs z = z ≡ 0
IsTail line.Infinite p xs z = (all_service p - all_calls p) * z ≡ all_calls p * mass_in xs (full_word p)

pub record IsSolution (p : PlanParts) (xs : List ℕ) (z : ℕ) : Type 0 where
  pub words : SolvesWords p xs
  pub tail : IsTail p.line p xs z

pub record HasSolution (p : PlanParts) : Type 0 where
  pub masses : List ℕ
  pub waiting : ℕ
  pub solves : IsSolution p masses waiting

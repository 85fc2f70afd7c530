-- The masses of the words from those of the states: each state's mass is spread evenly over its words.
use Rattle.std.specs.Prelude.{◌≡◌, ℕ, ◌*◌, ◌<◌, List, length}
use Rattle.hyper_model.specs.declared.parts.PlanParts.{PlanParts}
use Rattle.hyper_model.specs.Solutions.{mass_in}
use Rattle.hyper_model.specs.Sums.{sum_below}
use Rattle.hyper_model.specs.Tables.{SolvesTable, AreProportional}
use Rattle.hyper_model.specs.Words.{words}
use Rattle.crew_stations.specs.Standing.{state_of, state_mass}
use Rattle.crew_stations.specs.Stations.{StationPlan, states, state_table, SolvesStates}

-- how many words have state a
abbrev pub words_of : PlanParts → StationPlan → (ℕ → ℕ) → ℕ → ℕ
words_of p s station a = state_mass p s station (λ word. 1) a

-- whichever masses of the states balance, a word's share of all masses is that of its state, over the number of the
-- state's words
abbrev pub AreWordsSpread : PlanParts → StationPlan → (ℕ → ℕ) → (ℕ → ℕ) → ℕ → Type 0
AreWordsSpread p s station x z =
    (y : ℕ → ℕ) → SolvesTable (states s) (state_table s) y
    → (word : ℕ) → word < words p
    → x word * words_of p s station (state_of p s station word) * sum_below (states s) y
    ≡ y (state_of p s station word) * sum_below (words p) x

-- a list of masses, one for each state, and the mass of the waiting calls
pub record HasStateSolution (s : StationPlan) : Type 0 where
  pub masses : List ℕ
  pub waiting : ℕ
  pub one_each : length masses ≡ states s
  pub solves : SolvesStates s (mass_in masses) waiting

-- a solution over the states exists
abbrev pub IsStateChainSolvable : ℕ → StationPlan → Type 0
IsStateChainSolvable most s = HasStateSolution s

-- and any two are proportional
abbrev pub AreStatesProportional : ℕ → StationPlan → Type 0
AreStatesProportional most s = AreProportional (states s) (state_table s)

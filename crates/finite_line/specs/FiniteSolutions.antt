-- The fleet with a limited number of waiting places: what it is to solve its balance equations, which are those of
-- `SolvesQueue`. A call that finds all units busy waits if a place is free, and else is lost.
use Rattle.std.specs.Prelude.{◌≡◌, ℕ, ◌<◌, List, ◌∷◌, length}
use Rattle.hyper_model.specs.declared.parts.PlanParts.{PlanParts}
use Rattle.hyper_model.specs.Words.{words, full_word}
use Rattle.hyper_model.specs.Solutions.{mass_in}
use Rattle.hyper_model.specs.Measures.{mass}
use Rattle.hyper_model.specs.Laws.{SolvesQueue, waiting_in}

-- The mass of the state in which all units are busy and k calls wait: xs holds those of the words, of which the full one
-- has no call waiting, and qs those of the states with 1, 2 and more.
abbrev pub queue_mass : PlanParts → List ℕ → List ℕ → ℕ → ℕ
queue_mass p xs qs k = mass_in (mass_in xs (full_word p) ∷ qs) k

-- the mass of all states
abbrev pub whole_mass : PlanParts → ℕ → (ℕ → ℕ) → (ℕ → ℕ) → ℕ
whole_mass p room x q = mass p x (waiting_in room q)

-- masses of the words and of the states in which 1 to `room` calls wait, not all 0, balance at every state
pub record IsFiniteSolution (p : PlanParts) (room : ℕ) (xs qs : List ℕ) : Type 0 where
  pub one_each : length xs ≡ words p
  pub one_each_place : length qs ≡ room
  pub positive : 0 < whole_mass p room (mass_in xs) (queue_mass p xs qs)
  pub balanced : SolvesQueue p room (mass_in xs) (queue_mass p xs qs)

pub record HasFiniteSolution (p : PlanParts) (room : ℕ) : Type 0 where
  pub masses : List ℕ
  pub waiting : List ℕ
  pub solves : IsFiniteSolution p room masses waiting

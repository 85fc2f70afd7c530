-- Tables of rates between states, their balance, and the masses of the states that solve it. The rate from a
-- state to itself stands on both sides of a balance, so that it may be anything.
use Rattle.std.specs.Prelude.{◌≡◌, ℕ, ◌*◌, ◌<◌, ◌==◌, if◌then◌else◌, List, length}
use Rattle.hyper_model.specs.declared.parts.PlanParts.{PlanParts}
use Rattle.hyper_model.specs.Sums.{sum_below}
use Rattle.hyper_model.specs.Plans.{units, service_of, split}
use Rattle.hyper_model.specs.Words.{is_busy, turned_word}
use Rattle.hyper_model.specs.Rates.{up}
use Rattle.hyper_model.specs.Solutions.{mass_in}

-- the rate from each state to each other
abbrev pub RateTable : Type 0
RateTable = ℕ → ℕ → ℕ

-- as much flows out of state j as into it
abbrev pub IsBalancedState : ℕ → RateTable → (ℕ → ℕ) → ℕ → Type 0
IsBalancedState n rate x j = x j * sum_below n (rate j) ≡ sum_below n (λ i. x i * rate i j)

-- masses of the first n states, not all 0, balance at every state
pub record SolvesTable (n : ℕ) (rate : RateTable) (x : ℕ → ℕ) : Type 0 where
  pub positive : 0 < sum_below n x
  pub balanced : (j : ℕ) → j < n → IsBalancedState n rate x j

-- each state but the first has a rate to an earlier one
abbrev pub Descends : ℕ → RateTable → Type 0
Descends n rate = (m : ℕ) → 0 < m → m < n → (j : ℕ) × (j < m) × (0 < rate m j)

-- the same table with no rate from a state to itself
abbrev pub between_states : RateTable → RateTable
between_states rate i j = if i == j then 0 else rate i j

-- the masses in a list, by the number of the state
pub record IsTableSolution (n : ℕ) (rate : RateTable) (xs : List ℕ) : Type 0 where
  pub one_each : length xs ≡ n
  pub solves : SolvesTable n rate (mass_in xs)

pub record HasTableSolution (n : ℕ) (rate : RateTable) : Type 0 where
  pub masses : List ℕ
  pub solves : IsTableSolution n rate masses

-- in every solution the first state has a mass
abbrev pub IsFirstPositive : ℕ → RateTable → Type 0
IsFirstPositive n rate = (xs : List ℕ) → IsTableSolution n rate xs → 0 < mass_in xs 0

-- any two solutions are proportional
abbrev pub AreProportional : ℕ → RateTable → Type 0
AreProportional n rate =
    (xs ys : List ℕ) → IsTableSolution n rate xs → IsTableSolution n rate ys
    → (v w : ℕ) → v < n → w < n → mass_in xs v * mass_in ys w ≡ mass_in xs w * mass_in ys v

-- the rate at which unit n changes in the word: it ends its service, or is sent
abbrev pub turn_rate : PlanParts → ℕ → ℕ → ℕ
turn_rate p word n = if is_busy word n then split p * service_of p n else up p word n

-- the rates of a plan between words
abbrev pub word_table : PlanParts → RateTable
word_table p v w = sum_below (units p) (λ n. if w == turned_word v n then turn_rate p v n else 0)

-- two numberings of the first n states that undo each other
pub record AreInverse (n : ℕ) (to back : ℕ → ℕ) : Type 0 where
  pub to_below : (i : ℕ) → i < n → to i < n
  pub back_below : (j : ℕ) → j < n → back j < n
  pub back_to : (i : ℕ) → i < n → back (to i) ≡ i
  pub to_back : (j : ℕ) → j < n → to (back j) ≡ j

-- the rates of a table under the new numbers
abbrev pub relabelled : (ℕ → ℕ) → RateTable → RateTable
relabelled to rate i j = rate (to i) (to j)

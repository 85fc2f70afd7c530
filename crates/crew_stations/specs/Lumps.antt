-- States in classes: what the states of a class have together, and chains whose classes are themselves a chain
-- (Kemeny and Snell, Finite Markov Chains, chapter 6).
use Rattle.std.specs.Prelude.{◌≡◌, ℕ, ◌<◌, ◌==◌, if◌then◌else◌}
use Rattle.hyper_model.specs.Sums.{sum_below}
use Rattle.hyper_model.specs.Tables.{RateTable, SolvesTable, Descends, AreInverse}

-- what those of the first n states that are of one class have together
abbrev pub class_sum : ℕ → (ℕ → ℕ) → (ℕ → ℕ) → ℕ → ℕ
class_sum n class x a = sum_below n (λ v. if class v == a then x v else 0)

-- each of n states has one of m classes, and its rates to all states of a class depend only on its own class
pub record IsLumped (n m : ℕ) (rate : RateTable) (class : ℕ → ℕ) (lumped : RateTable) : Type 0 where
  pub inside : (v : ℕ) → v < n → class v < m
  pub sums : (v b : ℕ) → v < n → b < m → class_sum n class (rate v) b ≡ lumped (class v) b

-- then the masses of the classes balance, if those of the states do
abbrev pub ClassesBalance : ℕ → ℕ → RateTable → (ℕ → ℕ) → RateTable → Type 0
ClassesBalance n m rate class lumped =
    IsLumped n m rate class lumped → (x : ℕ → ℕ) → SolvesTable n rate x → SolvesTable m lumped (class_sum n class x)

-- new numbers for the first n states that leave all rates as they are
pub record IsExchange (n : ℕ) (rate : RateTable) (to back : ℕ → ℕ) : Type 0 where
  pub numbers : AreInverse n to back
  pub same : (v w : ℕ) → v < n → w < n → rate (to v) (to w) ≡ rate v w

-- then each state has the mass of the state that takes its number
abbrev pub ExchangedBalance : ℕ → RateTable → Type 0
ExchangedBalance n rate =
    Descends n rate → (to back : ℕ → ℕ) → IsExchange n rate to back
    → (x : ℕ → ℕ) → SolvesTable n rate x → (v : ℕ) → v < n → x (to v) ≡ x v

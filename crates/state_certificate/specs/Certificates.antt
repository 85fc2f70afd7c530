-- Certificates: low masses and high masses of the states of a table, such that every solution of its balance lies between
-- them up to one common factor. What makes them one is checked state by state, in whole numbers.
use Rattle.std.specs.Prelude.{◌≡◌, ◌≢◌, ℕ, ◌*◌, ◌<◌, ◌≤◌, List, length}
use Rattle.fixed_interval.specs.Ends.{Ends}
use Rattle.fixed_interval.specs.WeightList.{EnclosesAll, ends_at}
use Rattle.hyper_model.specs.Sums.{sum_below}
use Rattle.hyper_model.specs.Tables.{RateTable, IsTableSolution, SolvesTable}

-- the flow into state j and the flow out of it, where x(i) is the mass of state i
abbrev pub inflow : ℕ → RateTable → (ℕ → ℕ) → ℕ → ℕ
inflow n rate x j = sum_below n (λ i. x i * rate i j)

abbrev pub outflow : ℕ → RateTable → (ℕ → ℕ) → ℕ → ℕ
outflow n rate x j = x j * sum_below n (rate j)

-- no more flows out of state j than into it
abbrev pub IsFedState : ℕ → RateTable → (ℕ → ℕ) → ℕ → Type 0
IsFedState n rate x j = outflow n rate x j ≤ inflow n rate x j

-- more flows out of state j than into it
abbrev pub IsDrainedState : ℕ → RateTable → (ℕ → ℕ) → ℕ → Type 0
IsDrainedState n rate x j = inflow n rate x j < outflow n rate x j

-- each state but the reference is fed; each state but the reference is drained
abbrev pub IsSubSolution : ℕ → RateTable → ℕ → (ℕ → ℕ) → Type 0
IsSubSolution n rate reference x = (j : ℕ) → j < n → j ≢ reference → IsFedState n rate x j

abbrev pub IsSuperSolution : ℕ → RateTable → ℕ → (ℕ → ℕ) → Type 0
IsSuperSolution n rate reference x = (j : ℕ) → j < n → j ≢ reference → IsDrainedState n rate x j

-- the low masses are a sub-solution and the high ones a super-solution, in order and not 0 at the reference
pub record IsCertificate (n : ℕ) (rate : RateTable) (reference : ℕ) (low high : ℕ → ℕ) : Type 0 where
  pub inside : reference < n
  pub ordered : low reference ≤ high reference
  pub positive : 0 < high reference
  pub below : IsSubSolution n rate reference low
  pub above : IsSuperSolution n rate reference high

-- they are a certificate with one of the states as the reference
pub record AreCertified (n : ℕ) (rate : RateTable) (low high : ℕ → ℕ) : Type 0 where
  pub reference : ℕ
  pub holds : IsCertificate n rate reference low high

-- a sub-solution is nowhere above a super-solution, once both are scaled to one mass at the reference
abbrev pub ObeysMaximumPrinciple : ℕ → RateTable → Type 0
ObeysMaximumPrinciple n rate =
    (reference : ℕ) (x y : ℕ → ℕ) → reference < n → 0 < y reference
    → IsSubSolution n rate reference x → IsSuperSolution n rate reference y
    → (j : ℕ) → j < n → x j * y reference ≤ y j * x reference

-- for every solution and every two states, the low mass of one to the high mass of the other is at most the ratio of
-- the solution's masses there
pub record BoundSolutions (n : ℕ) (rate : RateTable) (low high : ℕ → ℕ) : Type 0 where
  pub positive : (k : ℕ) → k < n → 0 < high k
  pub in_ratio : (x : ℕ → ℕ) → SolvesTable n rate x → (i k : ℕ) → i < n → k < n → low i * x k ≤ high k * x i

-- a certificate bounds every solution
abbrev pub CertificatesBound : ℕ → RateTable → Type 0
CertificatesBound n rate = (low high : ℕ → ℕ) → AreCertified n rate low high → BoundSolutions n rate low high

-- the widest bounds: from 0 to 1 at each state
pub record AreWidest (n : ℕ) (low high : ℕ → ℕ) : Type 0 where
  pub lowest : (i : ℕ) → i < n → low i ≡ 0
  pub highest : (i : ℕ) → i < n → high i ≡ 1

abbrev pub low_ends : List Ends → ℕ → ℕ
low_ends items i = (ends_at items i).lo

abbrev pub high_ends : List Ends → ℕ → ℕ
high_ends items i = (ends_at items i).hi

-- weights, one for each state, whose ends are a certificate enclose every solution
abbrev pub CertifiedEnclose : ℕ → RateTable → Type 0
CertifiedEnclose n rate =
    (items : List Ends) (masses : List ℕ) → length items ≡ n → AreCertified n rate (low_ends items) (high_ends items)
    → IsTableSolution n rate masses → EnclosesAll items masses

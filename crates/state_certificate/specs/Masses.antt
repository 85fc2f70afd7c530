-- Lists of masses, one for each state, none above a bound.
use Rattle.std.specs.Prelude.{◌≡◌, ℕ, ◌<◌, ◌≤◌, List, length, slice_index}

-- past the end of the list there is no mass
pub record AreMasses (n most : ℕ) (masses : List ℕ) : Type 0 where
  pub one_each : length masses ≡ n
  pub small : (i : ℕ) → slice_index masses i ≤ most

-- low and high masses, none of a state's out of order
pub record AreOrdered (n most : ℕ) (low high : List ℕ) : Type 0 where
  pub low_masses : AreMasses n most low
  pub high_masses : AreMasses n most high
  pub ordered : (i : ℕ) → i < n → slice_index low i ≤ slice_index high i

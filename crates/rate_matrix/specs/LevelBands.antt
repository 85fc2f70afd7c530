-- A band for each level of states: its rows are those of the level, and its columns those of the level and of the
-- levels beside it.
use Rattle.std.specs.Prelude.{◌≡◌, ℕ, ◌+◌, ◌-◌, ◌*◌, ◌<◌, List, length, nat_lt, count_by, replicate, slice_index_or}
use Rattle.fixed_interval.specs.Ends.{exact_ends}
use Rattle.rate_matrix.specs.Bands.{BandOfRows, no_band}

-- how many states have a lower level than this
abbrev pub below_level : List ℕ → ℕ → ℕ
below_level levels k = count_by (λ l. nat_lt l k) levels

unfoldable pub level_band : List ℕ → ℕ → BandOfRows
level_band levels k =
    let first = below_level levels k in
    let left = below_level levels (k - 1) in
    let rows = below_level levels (k + 1) - first in
    let width = below_level levels (k + 2) - left in
    record { first = first; rows = rows; left = left; width = width; cells = replicate (rows * width) (exact_ends 0) }

-- the bands of the first levels
pub record AreBandsOf (levels : List ℕ) (count : ℕ) (bands : List BandOfRows) : Type 0 where
  pub one_each : length bands ≡ count
  pub band : (k : ℕ) → k < count → slice_index_or bands k no_band ≡ level_band levels k

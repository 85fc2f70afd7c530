-- A matrix of entries, kept in bands. A band has the rows of some states that follow each other, and of each row
-- the columns from `left` on; what is not kept is exactly 0. One band of all rows and columns is the dense form.
use Rattle.std.specs.Prelude.{◌≡◌, ℕ, ◌+◌, ◌-◌, ◌*◌, ◌/◌, ◌^◌, ◌<◌, ◌≤◌, Bool, false, ◌&&◌, nat_lt, nat_le, if◌then◌else◌, List, [], length, slice_index, slice_index_or}
use Rattle.fixed_interval.specs.Ends.{Ends, exact_ends}
use Rattle.hyper_model.specs.Tables.{RateTable, between_states}
use Rattle.rate_matrix.specs.Elimination.{Entries, IsLive, IsWithin, outflow_of}

-- the rows of the states from `first` on, each with the columns from `left` on, one row after the other
pub record BandOfRows : Type 0 where
  pub first : ℕ
  pub rows : ℕ
  pub left : ℕ
  pub width : ℕ
  pub cells : List Ends

-- a matrix as its callers see it: the outflow of each state, the number of its band, and the bands
pub record BandedRates : Type 0 where
  pub size : ℕ
  pub alive : ℕ
  pub scale : ℕ
  pub packed : Bool
  pub outflows : List ℕ
  pub levels : List ℕ
  pub bands : List BandOfRows

abbrev pub no_band : BandOfRows
no_band = record { first = 0; rows = 0; left = 0; width = 0; cells = [] }

-- the band has the row of state i
pub record HasRow (band : BandOfRows) (i : ℕ) : Type 0 where
  pub from : band.first ≤ i
  pub to : i < band.first + band.rows

-- the band keeps column j of each of its rows
pub record HasColumn (band : BandOfRows) (j : ℕ) : Type 0 where
  pub from : band.left ≤ j
  pub to : j < band.left + band.width

abbrev pub has_column : BandOfRows → ℕ → Bool
has_column band j = nat_le band.left j && nat_lt j (band.left + band.width)

-- where the cell of row i and column j stands among those of its band
abbrev pub place_in : BandOfRows → ℕ → ℕ → ℕ
place_in band i j = (i - band.first) * band.width + (j - band.left)

abbrev pub cell_of : BandOfRows → Entries
cell_of band i j = slice_index_or band.cells (place_in band i j) (exact_ends 0)

unfoldable pub band_entry : BandOfRows → Entries
band_entry band i j = if has_column band j then cell_of band i j else exact_ends 0

abbrev pub band_at : BandedRates → ℕ → BandOfRows
band_at m level = slice_index_or m.bands level no_band

-- the band with the row of state i
abbrev pub band_of : BandedRates → ℕ → BandOfRows
band_of m i = band_at m (slice_index m.levels i)

-- the entry from state i to state j
unfoldable pub entry : BandedRates → Entries
entry m i j = band_entry (band_of m i) i j

-- the place is kept in memory; the entries elsewhere are 0
abbrev pub IsKept : BandedRates → ℕ → ℕ → Type 0
IsKept m i j = HasColumn (band_of m i) j

-- the sum of the rates out of state i
abbrev pub outflow : BandedRates → ℕ → ℕ
outflow m i = slice_index m.outflows i

-- no entry of row i goes past this: the outflow in the scale of the entries
abbrev pub cap : BandedRates → ℕ → ℕ
cap m i = m.scale * outflow m i

-- the same rows and columns
pub record HasSameShape (old new : BandOfRows) : Type 0 where
  pub first : new.first ≡ old.first
  pub rows : new.rows ≡ old.rows
  pub left : new.left ≡ old.left
  pub width : new.width ≡ old.width

-- nothing but entries and the number of states alive may differ
pub record HasSameFrame (old new : BandedRates) : Type 0 where
  pub size : new.size ≡ old.size
  pub scale : new.scale ≡ old.scale
  pub packed : new.packed ≡ old.packed
  pub outflows : new.outflows ≡ old.outflows
  pub levels : new.levels ≡ old.levels
  pub count : length new.bands ≡ length old.bands
  pub shape : (l : ℕ) → HasSameShape (band_at old l) (band_at new l)

-- each state has a row in the one band of its level, and later states have their first columns no earlier
pub record IsBanded (m : BandedRates) : Type 0 where
  pub levels : length m.levels ≡ m.size
  pub level : (i : ℕ) → i < m.size → slice_index m.levels i < length m.bands
  pub row : (i : ℕ) → i < m.size → HasRow (band_of m i) i
  pub own : (l i : ℕ) → l < length m.bands → HasRow (band_at m l) i → (i < m.size) × (slice_index m.levels i ≡ l)
  pub cells : (l : ℕ) → l < length m.bands → length (band_at m l).cells ≡ (band_at m l).rows * (band_at m l).width
  pub columns : (l : ℕ) → l < length m.bands → (band_at m l).left + (band_at m l).width ≤ m.size
  pub falls : (i j : ℕ) → i ≤ j → j < m.size → (band_of m i).left ≤ (band_of m j).left
  pub whole : m.packed ≡ false → (i j : ℕ) → i < m.size → j < m.size → IsKept m i j

-- a matrix of which no state is eliminated
abbrev pub matrix_of_bands : ℕ → ℕ → Bool → List ℕ → List ℕ → List BandOfRows → BandedRates
matrix_of_bands size scale packed outflows levels bands = record {
  size = size;
  alive = size;
  scale = scale;
  packed = packed;
  outflows = outflows;
  levels = levels;
  bands = bands;
}

-- rows and columns for so many states
abbrev pub layout : ℕ → Bool → List ℕ → List BandOfRows → BandedRates
layout size packed levels bands = matrix_of_bands size 0 packed [] levels bands

-- The matrix of a chain before any elimination: the rates from each state to each other, times one scale. The
-- scale is the greatest in which no state's rates sum to more than 2 ^ 62.
pub record IsMatrixOf (states : ℕ) (rates : RateTable) (top : ℕ) (m : BandedRates) : Type 0 where
  pub size : m.size ≡ states
  pub alive : m.alive ≡ states
  pub scale : m.scale ≡ 2 ^ 62 / top
  pub outflows : (i : ℕ) → i < states → outflow m i ≡ outflow_of states rates i
  pub entries : (i j : ℕ) → i < states → j < states → entry m i j ≡ exact_ends (m.scale * between_states rates i j)

-- what every matrix keeps
pub record IsSound (m : BandedRates) : Type 0 where
  pub at_least : 2 ≤ m.size
  pub at_most : m.size ≤ 4096
  pub alive : m.alive ≤ m.size
  pub some_alive : 1 ≤ m.alive
  pub scale : 2 ^ 26 ≤ m.scale
  pub outflows : length m.outflows ≡ m.size
  pub caps : (i : ℕ) → i < m.size → cap m i ≤ 2 ^ 62
  pub banded : IsBanded m
  pub within : IsWithin m.size (cap m) (entry m)
  pub live : IsLive m.size m.scale (entry m)

-- Rows that follow each other, while one state is eliminated.
use Rattle.std.specs.Prelude.{◌≡◌, ◌≢◌, ℕ, ◌+◌, ◌-◌, ◌*◌, ◌^◌, ◌<◌, ◌≤◌, if◌then◌else◌, min, List, length, slice_index, slice_index_or}
use Rattle.fixed_interval.specs.Ends.{Ends, exact_ends}
use Rattle.rate_matrix.specs.Elimination.{Entries, raised_entries}
use Rattle.rate_matrix.specs.Bands.{BandOfRows, HasRow, HasColumn, HasSameShape, band_entry, cell_of, has_column}

-- the elimination of one state, as the rows see it: the state, the scale and the outflows of the matrix, and the
-- part of what leaves the state for each state before it
pub record OneElimination : Type 0 where
  pub state : ℕ
  pub scale : ℕ
  pub outflows : List ℕ
  pub parts : List Ends

-- the part of each state
abbrev pub part_in : List Ends → ℕ → Ends
part_in parts j = slice_index_or parts j (exact_ends 0)

-- no entry of row i goes past this
abbrev pub row_cap : OneElimination → ℕ → ℕ
row_cap step i = step.scale * slice_index step.outflows i

-- the entries after it
abbrev pub entries_past : OneElimination → Entries → Entries
entries_past step entries i j = raised_entries (part_in step.parts) entries (row_cap step) step.state i j

-- so many rows, with so many columns from `left` on
abbrev pub rows_from : ℕ → ℕ → ℕ → ℕ → List Ends → BandOfRows
rows_from first rows left width cells = record { first = first; rows = rows; left = left; width = width; cells = cells }

-- the rows of states before the one that goes, which keep its column, with ends in order and within their caps
pub record CanEliminate (step : OneElimination) (b : BandOfRows) : Type 0 where
  pub before : b.first + b.rows ≤ step.state
  pub column : HasColumn b step.state
  pub parts : step.state ≤ length step.parts
  pub outflows : b.first + b.rows ≤ length step.outflows
  pub cells : length b.cells ≡ b.rows * b.width
  pub caps : (i : ℕ) → HasRow b i → row_cap step i ≤ 2 ^ 62
  pub ordered : (i j : ℕ) → HasRow b i → HasColumn b j → i ≢ j → (cell_of b i j).lo ≤ (cell_of b i j).hi
  pub capped : (i j : ℕ) → HasRow b i → HasColumn b j → i ≢ j → (cell_of b i j).hi ≤ row_cap step i

-- the cells of the rows after its elimination
pub record AreAfter (step : OneElimination) (b : BandOfRows) (cells : List Ends) : Type 0 where
  pub count : length cells ≡ length b.cells
  pub each : (i j : ℕ) → HasRow b i → HasColumn b j
      → cell_of (record b { cells = cells }) i j ≡ entries_past step (cell_of b) i j
  pub ordered : (i j : ℕ) → HasRow b i → HasColumn b j → i ≢ j
      → (cell_of (record b { cells = cells }) i j).lo ≤ (cell_of (record b { cells = cells }) i j).hi

-- how many rows of a band are those of states before this one, if it keeps the state's column
abbrev pub rows_before : BandOfRows → ℕ → ℕ
rows_before b state = if has_column b state then min b.rows (state - b.first) else 0

-- a band of the matrix whose rows before the state may be changed: outside of its columns there is nothing to add
pub record CanUpdate (step : OneElimination) (b : BandOfRows) : Type 0 where
  pub parts : step.state ≤ length step.parts
  pub outflows : (i : ℕ) → HasRow b i → i < length step.outflows
  pub cells : length b.cells ≡ b.rows * b.width
  pub caps : (i : ℕ) → HasRow b i → row_cap step i ≤ 2 ^ 62
  pub ordered : (i j : ℕ) → HasRow b i → HasColumn b j → i ≢ j → (cell_of b i j).lo ≤ (cell_of b i j).hi
  pub capped : (i j : ℕ) → HasRow b i → HasColumn b j → i ≢ j → (cell_of b i j).hi ≤ row_cap step i
  pub outside : (i j : ℕ) → HasRow b i → i < step.state → HasColumn b step.state → j < step.state → ¬ HasColumn b j
      → part_in step.parts j ≡ exact_ends 0

-- the band after the elimination of the state
pub record IsUpdated (step : OneElimination) (old new : BandOfRows) : Type 0 where
  pub shape : HasSameShape old new
  pub count : length new.cells ≡ length old.cells
  pub each : (i j : ℕ) → HasRow old i → band_entry new i j ≡ entries_past step (band_entry old) i j
  pub ordered : (i j : ℕ) → HasRow old i → i ≢ j → (band_entry new i j).lo ≤ (band_entry new i j).hi

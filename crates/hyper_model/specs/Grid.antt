-- what contracts see of a table of whole numbers: its rows one after the other
use Rattle.std.specs.Prelude.{◌≡◌, ◌≢◌, ℕ, ◌+◌, ◌*◌, ◌<◌, ◌≤◌, ◌⊎◌, List, length, replicate, slice_set, slice_index_or}
use Rattle.hyper_model.specs.declared.TheConstants.{MOST_ATOMS}

pub record Grid : Type 0 where
  pub rows : ℕ
  pub cols : ℕ
  pub cells : List ℕ

-- at most a row and a column for each atom that a plan can have, and a cell for each place
pub record IsSized (grid : Grid) : Type 0 where
  pub few_rows : grid.rows ≤ MOST_ATOMS
  pub few_cols : grid.cols ≤ MOST_ATOMS
  pub one_each : length grid.cells ≡ grid.rows * grid.cols

-- the cell in row r and column c
abbrev pub cell : Grid → ℕ → ℕ → ℕ
cell grid r c = slice_index_or grid.cells (r * grid.cols + c) 0

-- a table of zeros
abbrev pub zero_grid : ℕ → ℕ → Grid
zero_grid rows cols = record { rows = rows; cols = cols; cells = replicate (rows * cols) 0 }

-- the table with this value in the cell (r, c)
abbrev pub with_cell : Grid → ℕ → ℕ → ℕ → Grid
with_cell grid r c value = record grid { cells = slice_set grid.cells (r * grid.cols + c) value }

-- the cell (r, c) has this value, and all else is as it was
pub record SetsCell (old new : Grid) (r c value : ℕ) : Type 0 where
  pub same_rows : new.rows ≡ old.rows
  pub same_cols : new.cols ≡ old.cols
  pub there : cell new r c ≡ value
  pub others : (i j : ℕ) → i < old.rows → j < old.cols → (i ≢ r) ⊎ (j ≢ c) → cell new i j ≡ cell old i j

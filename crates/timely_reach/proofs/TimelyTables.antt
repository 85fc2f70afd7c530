-- The timely table, cell by cell: how it is made in place, and what its cells are.
use Rattle.std.proofs.Common.{◌≡◌, ◌∙◌, ℕ, zero, suc, ◌+◌, ◌*◌, ◌<◌, ◌≤◌, List, length, map, get_or, set, refl, sym, ap, inl, inr, arith, get_or-set_same, get_or-set_other, ext_get_or}
use Rattle.std.proofs.lemmas.Bool.{cases_eq}
use Rattle.std.proofs.lemmas.List.{get_or-map, length-map, length-set}
use Rattle.hyper_model.specs.Grid.{Grid, IsSized, cell, with_cell}
use Rattle.hyper_model.proofs.Grids.{place_within}
use Rattle.timely_reach.specs.TimelyPlans.{timely_seconds, timely_table}

-- the first cells are timely or not, and the others as they were
pub record IsTimelyTo (limit : ℕ) (old now : Grid) (done : ℕ) : Type 0 where
  pub rows : now.rows ≡ old.rows
  pub cols : now.cols ≡ old.cols
  pub sized : length now.cells ≡ length old.cells
  pub before : (i : ℕ) → i < done → i < length old.cells → get_or now.cells i 0 ≡ timely_seconds limit (get_or old.cells i 0)
  pub after : (i : ℕ) → done ≤ i → get_or now.cells i 0 ≡ get_or old.cells i 0

pub timely_none : (limit : ℕ) (old : Grid) → IsTimelyTo limit old old 0
timely_none limit old = record {
  rows = refl;
  cols = refl;
  sized = refl;
  before = λ i l inside. absurd (omega arith);
  after = λ i l. refl;
}

-- one cell more
pub timely_next : (limit : ℕ) (old was now : Grid) (i r c v s : ℕ) → IsTimelyTo limit old was i → r * was.cols + c ≡ i
    → i < length old.cells → s ≡ cell was r c → v ≡ timely_seconds limit s → now ≡ with_cell was r c v
    → IsTimelyTo limit old now (i + 1)
timely_next limit old was now i r c v s b place inside is_s is_v is_now =
    let cells : now.cells ≡ set was.cells i v =
    ap (λ (g : Grid). g.cells) is_now ∙ ap (λ k. set was.cells k v) place in
    let there : v ≡ timely_seconds limit (get_or old.cells i 0) =
    is_v ∙ ap (timely_seconds limit) (is_s ∙ ap (λ k. get_or was.cells k 0) place ∙ b.after i (omega arith)) in
    let within : i < length was.cells = omega (arith, b.sized) in
    record {
      rows = ap (λ (g : Grid). g.rows) is_now ∙ b.rows;
      cols = ap (λ (g : Grid). g.cols) is_now ∙ b.cols;
      sized = ap (λ (xs : List ℕ). length xs) cells ∙ length-set was.cells i v ∙ b.sized;
      before = λ k l in_old. elim (cases_eq k i) [
        | inl e ↦
            ap (λ (xs : List ℕ). get_or xs k 0) cells
            ∙ ap (λ n. get_or (set was.cells i v) n 0) e
            ∙ get_or-set_same was.cells i v 0 within
            ∙ there
            ∙ ap (λ n. timely_seconds limit (get_or old.cells n 0)) (sym e)
        | inr ne ↦
            ap (λ (xs : List ℕ). get_or xs k 0) cells
            ∙ get_or-set_other was.cells i k v 0 ne
            ∙ b.before k (omega (arith, ne)) in_old
      ];
      after = λ k l.
          ap (λ (xs : List ℕ). get_or xs k 0) cells
          ∙ get_or-set_other was.cells i k v 0 (λ e. absurd (omega arith))
          ∙ b.after k (omega arith);
    }

-- a table with a cell has a column
pub some_columns : (rows cols i : ℕ) → i < rows * cols → 0 < cols
some_columns rows zero i inside = absurd (omega (arith, inside))
some_columns rows (suc cols) i inside = omega arith

-- all cells
pub timely_all : (limit : ℕ) (old now : Grid) (done : ℕ) → length old.cells ≤ done → IsTimelyTo limit old now done
    → now ≡ timely_table limit old
timely_all limit old now done end b = same_parts now.rows now.cols now.cells b.rows b.cols same_cells
  where
    same_parts : (rows cols : ℕ) (cells : List ℕ) → rows ≡ old.rows → cols ≡ old.cols
        → cells ≡ map (timely_seconds limit) old.cells
        → (let grid : Grid = record { rows = rows; cols = cols; cells = cells } in grid ≡ timely_table limit old)
    same_parts rows cols cells e f g = cc

    same_cells : now.cells ≡ map (timely_seconds limit) old.cells
    same_cells =
        ext_get_or 0 now.cells (map (timely_seconds limit) old.cells)
        (b.sized ∙ sym (length-map old.cells (timely_seconds limit)))
        (λ i l.
        let inside : i < length old.cells = omega (arith, b.sized) in
        b.before i (omega arith) inside ∙ sym (get_or-map (timely_seconds limit) old.cells i 0 0 inside))

-- a cell of the timely table
pub timely_cell : (limit : ℕ) (table : Grid) → IsSized table → (r c : ℕ) → r < table.rows → c < table.cols
    → cell (timely_table limit table) r c ≡ timely_seconds limit (cell table r c)
timely_cell limit table sized r c row col =
    get_or-map (timely_seconds limit) table.cells (r * table.cols + c) 0 0
    (omega (arith, place_within table.rows table.cols r c row col, sized.one_each))

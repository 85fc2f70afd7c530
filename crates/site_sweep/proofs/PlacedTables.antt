-- Tables by their cells: the cells of one, and the one that has them.
use Rattle.std.proofs.Common.{◌≡◌, ◌≢◌, ◌∙◌, ℕ, zero, suc, ◌+◌, ◌*◌, ◌/◌, ◌%◌, ◌<◌, ◌≤◌, ◌⊎◌, inl, inr, List, length, get_or, refl, sym, ap, arith}
use Rattle.std.specs.Prelude.{◌==◌, if◌then◌else◌}
use Rattle.std.proofs.lemmas.Bool.{cases_eq, eq-eqb, ne_eqb}
use Rattle.std.proofs.lemmas.Nat.{div-add-mod', div_below, mod_below}
use Rattle.std.proofs.lemmas.List.{length-set}
use Rattle.std.proofs.lemmas.List.FromFn.{fill_by_all}
use Rattle.hyper_model.specs.Grid.{Grid, IsSized, SetsCell, cell, with_cell}
use Rattle.hyper_model.specs.declared.TheConstants.{WHOLE_TIME}
use Rattle.hyper_model.proofs.Ranges.{rows_from, table_length, table_read}
use Rattle.site_sweep.specs.Placed.{grid_of, located_wholly, thousandths}

module _ (rows cols : ℕ) (f : ℕ → ℕ → ℕ) where
  pub grid_cell : (r c : ℕ) → r < rows → c < cols → cell (grid_of rows cols f) r c ≡ f r c
  grid_cell r c h g = table_read f cols rows r c 0 h g

  -- by the places of its cells
  by_places : (xs : List ℕ) → ((r c : ℕ) → r < rows → c < cols → get_or xs (r * cols + c) 0 ≡ f r c)
      → (i : ℕ) → i < rows * cols → get_or xs i 0 ≡ f (i / cols) (i % cols)
  by_places xs each i h =
      let some : 0 < cols = positive cols h in
      ap (λ k. get_or xs k 0) (sym (div-add-mod' i cols))
      ∙ each (i / cols) (i % cols) (div_below i cols rows some h) (mod_below i cols some)
    where
      positive : (n : ℕ) → i < rows * n → 0 < n
      positive zero l = absurd (omega arith)
      positive (suc n) l = omega arith

  pub cells_are : (xs : List ℕ) → length xs ≡ rows * cols
      → ((r c : ℕ) → r < rows → c < cols → get_or xs (r * cols + c) 0 ≡ f r c) → xs ≡ rows_from f cols 0 rows
  cells_are xs e each =
      fill_by_all (λ i. f (i / cols) (i % cols)) xs (rows * cols) 0 e (by_places xs each)
      ∙ sym (fill_by_all (λ i. f (i / cols) (i % cols)) (rows_from f cols 0 rows) (rows * cols) 0 (table_length f cols rows)
      (by_places (rows_from f cols 0 rows) (λ r c h g. table_read f cols rows r c 0 h g)))

-- the first columns of row n are those of a unit that is wholly at atom k, and all else is as it was
pub record IsPlacedTo (old now : Grid) (n k done : ℕ) : Type 0 where
  pub rows : now.rows ≡ old.rows
  pub cols : now.cols ≡ old.cols
  pub sized : length now.cells ≡ old.rows * old.cols
  pub row : (j : ℕ) → j < done → cell now n j ≡ thousandths old n k n j
  pub others : (m j : ℕ) → m < old.rows → j < old.cols → (m ≢ n) ⊎ (done ≤ j) → cell now m j ≡ cell old m j

pub placed_none : (old : Grid) (n k : ℕ) → IsSized old → IsPlacedTo old old n k 0
placed_none old n k sized = record {
  rows = refl;
  cols = refl;
  sized = sized.one_each;
  row = λ j l. absurd (omega arith);
  others = λ m j l h ne. refl;
}

-- in the row of the unit, and in each other row
pub own_cell : (old : Grid) (n k j : ℕ) → thousandths old n k n j ≡ (if j == k then WHOLE_TIME else 0)
own_cell old n k j = rw (eq-eqb n n refl) refl

pub other_cell : (old : Grid) (n k m j : ℕ) → m ≢ n → thousandths old n k m j ≡ cell old m j
other_cell old n k m j ne = rw (ne_eqb m n ne) refl

-- one column more
pub placed_next : (old before now : Grid) (n k j v : ℕ) → IsPlacedTo old before n k j → n < old.rows → j < old.cols
    → v ≡ (if j == k then WHOLE_TIME else 0) → SetsCell before now n j v → now ≡ with_cell before n j v
    → IsPlacedTo old now n k (j + 1)
placed_next old before now n k j v b l h is sets exact = record {
  rows = sets.same_rows ∙ b.rows;
  cols = sets.same_cols ∙ b.cols;
  sized = ap (λ (g : Grid). length g.cells) exact ∙ length-set before.cells (n * before.cols + j) v ∙ b.sized;
  row = λ i less. elim (cases_eq i j) [
    | inl e ↦ rw e (sets.there ∙ is ∙ sym (own_cell old n k j))
    | inr ne ↦ sets.others n i (omega (arith, b.rows)) (omega (arith, b.cols)) (inr ne) ∙ b.row i (omega (arith, ne))
  ];
  others = λ m i in_rows in_cols apart.
      sets.others m i (omega (arith, b.rows)) (omega (arith, b.cols)) (elim apart [ inl ne ↦ inl ne | inr le ↦ inr (λ e. omega arith) ])
      ∙ b.others m i in_rows in_cols (elim apart [ inl ne ↦ inl ne | inr le ↦ inr (omega arith) ]);
}

-- all columns
pub placed_all : (old now : Grid) (n k done : ℕ) → old.cols ≤ done → IsPlacedTo old now n k done → now ≡ located_wholly old n k
placed_all old now n k done end b =
    same_parts now.rows now.cols now.cells b.rows b.cols
    (cells_are old.rows old.cols (thousandths old n k) now.cells b.sized
    (λ r c h g. ap (λ w. get_or now.cells (r * w + c) 0) (sym b.cols) ∙ each r c h g))
  where
    same_parts : (rows cols : ℕ) (cells : List ℕ) → rows ≡ old.rows → cols ≡ old.cols
        → cells ≡ rows_from (thousandths old n k) old.cols 0 old.rows
        → (let grid : Grid = record { rows = rows; cols = cols; cells = cells } in grid ≡ located_wholly old n k)
    same_parts rows cols cells e f g = cc

    each : (r c : ℕ) → r < old.rows → c < old.cols → cell now r c ≡ thousandths old n k r c
    each r c h g = elim (cases_eq r n) [
      | inl e ↦ rw e (b.row c (omega arith))
      | inr ne ↦ b.others r c h g (inl ne) ∙ sym (other_cell old n k r c ne)
    ]

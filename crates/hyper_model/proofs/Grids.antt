-- Cells of a table: a place of its own for each row and column.
use Rattle.std.proofs.Common.{◌≡◌, ◌≢◌, ℕ, ◌+◌, ◌*◌, ◌<◌, ◌≤◌, ◌⊎◌, inl, inr, ap, refl, arith, List, length, get_or, get_or-set_same, get_or-set_other, set}
use Rattle.std.proofs.Math.Nat.{mul-le-mul_right}
use Rattle.hyper_model.specs.Grid.{SetsCell}

-- the place of (r, c) lies among the first rows * cols
pub place_within : (rows cols r c : ℕ) → r < rows → c < cols → r * cols + c < rows * cols
place_within rows cols r c h g =
    let l : r + 1 ≤ rows = omega arith in
    omega (arith, mul-le-mul_right cols l)

-- a place of an earlier row stands before each place of a later one
pub place_before : (cols i r j c : ℕ) → j < cols → i < r → i * cols + j < r * cols + c
place_before cols i r j c h l =
    let g : i + 1 ≤ r = omega arith in
    omega (arith, mul-le-mul_right cols g)

-- another row or another column is another place
pub place_apart : (cols i r j c : ℕ) → j < cols → c < cols → (i ≢ r) ⊎ (j ≢ c) → i * cols + j ≢ r * cols + c
place_apart cols i r j c h g (inl d) e =
    let t : (i < r) ⊎ (r < i) = grind arith in
    elim t [
      | inl l ↦ omega (arith, place_before cols i r j c h l)
      | inr l ↦ omega (arith, place_before cols r i c j g l)
    ]
place_apart cols i r j c h g (inr d) e =
    let t : (i ≡ r) ⊎ ((i < r) ⊎ (r < i)) = grind arith in
    elim t [
      | inl l ↦ omega (arith, ap (λ a. a * cols) l)
      | inr t ↦ elim t [
        | inl l ↦ omega (arith, place_before cols i r j c h l)
        | inr l ↦ omega (arith, place_before cols r i c j g l)
      ]
    ]

-- a cell stays as it is if another one is written
pub other_cell : (xs : List ℕ) (v cols i r j c : ℕ) → j < cols → c < cols → (i ≢ r) ⊎ (j ≢ c)
    → get_or (set xs (r * cols + c) v) (i * cols + j) 0 ≡ get_or xs (i * cols + j) 0
other_cell xs v cols i r j c h g d = get_or-set_other xs (r * cols + c) (i * cols + j) v 0 (place_apart cols i r j c h g d)

-- what a write of one cell leaves of a table
pub sets_cell : (rows cols r c v : ℕ) (xs : List ℕ) → r < rows → c < cols → length xs ≡ rows * cols
    → SetsCell (record { rows = rows; cols = cols; cells = xs })
    (record { rows = rows; cols = cols; cells = set xs (r * cols + c) v }) r c v
sets_cell rows cols r c v xs h g e =
    let inside : r * cols + c < length xs = omega (arith, place_within rows cols r c h g) in
    record {
      same_rows = refl;
      same_cols = refl;
      there = get_or-set_same xs (r * cols + c) v 0 inside;
      others = λ i j _ l d. other_cell xs v cols i r j c l g d;
    }

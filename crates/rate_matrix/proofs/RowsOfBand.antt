-- The rows of a part of a band, one after the other.
use Rattle.std.proofs.Common.{◌≡◌, ◌≢◌, ℕ, ◌+◌, ◌-◌, ◌*◌, ◌/◌, ◌<◌, ◌≤◌, List, length, take, drop, get_or, refl, sym, ap, subst, ◌∙◌, inl, inr, arith}
use Rattle.std.proofs.lemmas.Bool.{cases_lt, cases_eq}
use Rattle.fixed_interval.specs.Ends.{Ends, exact_ends}
use Rattle.std.specs.Prelude.{if◌then◌else◌}
use Rattle.std.proofs.Math.Nat.{mul-le-mul_right}
use Rattle.rate_matrix.specs.Elimination.{Entries, is_raised, raised_entry, raised_entries}
use Rattle.rate_matrix.specs.Bands.{BandOfRows, HasRow, HasColumn, place_in, cell_of}
use Rattle.rate_matrix.specs.Rows.{OneElimination, entries_past, row_cap, AreAfter, CanEliminate, part_in, rows_from}
use Rattle.rate_matrix.proofs.SlicePlaces.{length_taken, rows_taken, slice_place, slice_length, put_below, put_inside, put_above, put_length}
use borrow.Rule.Slice.PartMut.{put_mid}

-- the first r rows are updated
pub record AreRowsUpdatedTo (step : OneElimination) (b : BandOfRows) (new : List Ends) (r : ℕ) : Type 0 where
  pub count : length new ≡ length b.cells
  pub done : (i j : ℕ) → HasRow b i → HasColumn b j → i < b.first + r
      → cell_of (record b { cells = new }) i j
      ≡ entries_past step (cell_of b) i j
  pub ordered : (i j : ℕ) → HasRow b i → HasColumn b j → i ≢ j
      → (cell_of (record b { cells = new }) i j).lo ≤ (cell_of (record b { cells = new }) i j).hi
  pub rest : (i j : ℕ) → HasRow b i → HasColumn b j → b.first + r ≤ i
      → cell_of (record b { cells = new }) i j ≡ cell_of b i j

pub raised_entries-alike : (parts : ℕ → Ends) (a b : Entries) (caps : ℕ → ℕ) (t i j : ℕ) → a i j ≡ b i j → a i t ≡ b i t
    → raised_entries parts a caps t i j ≡ raised_entries parts b caps t i j
unfolding raised_entries
raised_entries-alike parts a b caps t i j e f =
    ap (λ x. if is_raised t i j then raised_entry x (a i t) (parts j) (caps i) else x) e
    ∙ ap (λ x. if is_raised t i j then raised_entry (b i j) x (parts j) (caps i) else b i j) f

pub rows_start : (step : OneElimination) (b : BandOfRows)
    → CanEliminate step b → AreRowsUpdatedTo step b b.cells 0
rows_start step b can = record {
  count = refl;
  done = λ i j r k l. let from = r.from in absurd (omega arith);
  ordered = can.ordered;
  rest = λ i j r k l. refl;
}

pub rows_end : (step : OneElimination) (b : BandOfRows) (new : List Ends)
    → AreRowsUpdatedTo step b new b.rows → AreAfter step b new
rows_end step b new u = record {
  count = u.count;
  each = λ i j r k. u.done i j r k r.to;
  ordered = u.ordered;
}

-- one row of a band as a band of its own: its cells are those from r * width on
module _ (step : OneElimination) (b : BandOfRows) (new row : List Ends) (r : ℕ)
    (can : CanEliminate step b) (u : AreRowsUpdatedTo step b new r)
    (inside : r < b.rows) (len : length row ≡ b.width)
    (same : (k : ℕ) → k < b.width → get_or row k (exact_ends 0) ≡ get_or new (r * b.width + k) (exact_ends 0)) where
  abbrev one : BandOfRows
  one = rows_from (b.first + r) 1 b.left b.width row

  row_is : (i : ℕ) → HasRow one i → i ≡ b.first + r
  row_is i h = omega (arith, h.from, h.to)

  row_of : (i : ℕ) → HasRow one i → HasRow b i
  row_of i h = record { from = omega (arith, h.from); to = omega (arith, h.to) }

  column_of : (j : ℕ) → HasColumn one j → HasColumn b j
  column_of j h = record { from = h.from; to = h.to }

  place_one : (i j : ℕ) → i ≡ b.first + r → place_in one i j ≡ j - b.left
  place_one i j e = let here : i - (b.first + r) ≡ 0 = omega arith in rw here (omega arith)

  place_band : (i j : ℕ) → i ≡ b.first + r → place_in b i j ≡ r * b.width + (j - b.left)
  place_band i j e = let here : i - b.first ≡ r = omega arith in rw here refl

  pub cell_one : (i j : ℕ) → i ≡ b.first + r → HasColumn b j → cell_of one i j ≡ cell_of (record b { cells = new }) i j
  cell_one i j e h =
      ap (λ k. get_or row k (exact_ends 0)) (place_one i j e)
      ∙ same (j - b.left) (omega (arith, h.from, h.to))
      ∙ ap (λ k. get_or new k (exact_ends 0)) (sym (place_band i j e))

  cell_old : (i j : ℕ) → i ≡ b.first + r → HasColumn b j → cell_of one i j ≡ cell_of b i j
  cell_old i j e h =
      cell_one i j e h
      ∙ u.rest i j (record { from = omega arith; to = omega arith }) h (omega arith)

  pub can_row : CanEliminate step (rows_from (b.first + r) 1 b.left (length row) row)
  can_row = subst (λ w. CanEliminate step (rows_from (b.first + r) 1 b.left w row)) (sym len) record {
    before = omega (arith, can.before);
    column = record { from = can.column.from; to = can.column.to };
    parts = can.parts;
    outflows = omega (arith, can.outflows);
    cells = omega (arith, len);
    caps = λ i h. can.caps i (row_of i h);
    ordered = λ i j h k ne. subst (λ e. e.lo ≤ e.hi) (sym (cell_one i j (row_is i h) (column_of j k))) (u.ordered i j (row_of i h) (column_of j k) ne);
    capped = λ i j h k ne. subst (λ e. e.hi ≤ row_cap step i) (sym (cell_old i j (row_is i h) (column_of j k))) (can.capped i j (row_of i h) (column_of j k) ne);
  }

  -- the list with the row put back
  pub rows_more : (after more : List Ends)
      → AreAfter step (rows_from (b.first + r) 1 b.left (length row) row) after
      → length more ≡ length new
      → ((k : ℕ) → k < b.width → get_or more (r * b.width + k) (exact_ends 0) ≡ get_or after k (exact_ends 0))
      → ((k : ℕ) → k < r * b.width → get_or more k (exact_ends 0) ≡ get_or new k (exact_ends 0))
      → ((k : ℕ) → r * b.width + b.width ≤ k → get_or more k (exact_ends 0) ≡ get_or new k (exact_ends 0))
      → AreRowsUpdatedTo step b more (r + 1)
  rows_more after more done count here below above = record {
    count = count ∙ u.count;
    done = λ i j h k l. elim (cases_eq i (b.first + r)) [
      | inl e ↦
          cell_more i j e k
          ∙ a.each i j (one_row i e) (one_column j k)
          ∙ raised_entries-alike (part_in step.parts) (cell_of one) (cell_of b) (row_cap step) step.state i j
          (cell_old i j e k) (cell_old i step.state e can.column)
      | inr ne ↦ cell_below i j h k (omega (arith, ne, h.from)) ∙ u.done i j h k (omega (arith, ne))
    ];
    ordered = λ i j h k apart. elim (cases_eq i (b.first + r)) [
      | inl e ↦ subst (λ x. x.lo ≤ x.hi) (sym (cell_more i j e k)) (a.ordered i j (one_row i e) (one_column j k) apart)
      | inr ne ↦ elim (cases_lt i (b.first + r)) [
        | inl l ↦ subst (λ x. x.lo ≤ x.hi) (sym (cell_below i j h k l)) (u.ordered i j h k apart)
        | inr g ↦ subst (λ x. x.lo ≤ x.hi) (sym (cell_above i j h k (omega (arith, ne)))) (u.ordered i j h k apart)
      ]
    ];
    rest = λ i j h k l. cell_above i j h k (omega arith) ∙ u.rest i j h k (omega arith);
  }
    where
      a : AreAfter step one after
      a = subst (λ w. AreAfter step (rows_from (b.first + r) 1 b.left w row) after) len done

      one_row : (i : ℕ) → i ≡ b.first + r → HasRow one i
      one_row i e = record { from = omega arith; to = omega arith }

      one_column : (j : ℕ) → HasColumn b j → HasColumn one j
      one_column j h = record { from = h.from; to = h.to }

      cell_more : (i j : ℕ) → i ≡ b.first + r → HasColumn b j → cell_of (record b { cells = more }) i j ≡ cell_of (record one { cells = after }) i j
      cell_more i j e h =
          ap (λ k. get_or more k (exact_ends 0)) (place_band i j e)
          ∙ here (j - b.left) (omega (arith, h.from, h.to))
          ∙ ap (λ k. get_or after k (exact_ends 0)) (sym (place_one i j e))

      cell_below : (i j : ℕ) → HasRow b i → HasColumn b j → i < b.first + r → cell_of (record b { cells = more }) i j ≡ cell_of (record b { cells = new }) i j
      cell_below i j h k l =
          let before : (i - b.first + 1) * b.width ≤ r * b.width = mul-le-mul_right b.width (omega (arith, h.from)) in
          below (place_in b i j) (omega (arith, before, k.from, k.to))

      cell_above : (i j : ℕ) → HasRow b i → HasColumn b j → b.first + r < i → cell_of (record b { cells = more }) i j ≡ cell_of (record b { cells = new }) i j
      cell_above i j h k l =
          let later : (r + 1) * b.width ≤ (i - b.first) * b.width = mul-le-mul_right b.width (omega arith) in
          above (place_in b i j) (omega (arith, later))

-- the same for a row that is a slice of the cells
module _ (step : OneElimination) (b : BandOfRows) (new : List Ends) (r : ℕ)
    (can : CanEliminate step b) (u : AreRowsUpdatedTo step b new r)
    (inside : r < b.rows) where
  row_fits : r * b.width + b.width ≤ length new
  row_fits =
      let more : (r + 1) * b.width ≤ b.rows * b.width = mul-le-mul_right b.width (omega arith) in
      omega (arith, more, u.count, can.cells)

  slice_len : length (take b.width (drop (r * b.width) new)) ≡ b.width
  slice_len = slice_length new (r * b.width) b.width row_fits

  slice_same : (k : ℕ) → k < b.width
      → get_or (take b.width (drop (r * b.width) new)) k (exact_ends 0) ≡ get_or new (r * b.width + k) (exact_ends 0)
  slice_same k l = slice_place new (r * b.width) b.width k (exact_ends 0) l

  pub can_slice : (n : ℕ) → n ≡ b.width
      → CanEliminate step
      (rows_from (b.first + r) 1 b.left (length (take n (drop (r * b.width) new))) (take n (drop (r * b.width) new)))
  can_slice n e =
      subst (λ k. CanEliminate step
      (rows_from (b.first + r) 1 b.left (length (take k (drop (r * b.width) new))) (take k (drop (r * b.width) new)))) (sym e)
      (can_row step b new (take b.width (drop (r * b.width) new)) r can u inside slice_len slice_same)

  pub slice_more : (n : ℕ) (after : List Ends) → n ≡ b.width
      → AreAfter step
      (rows_from (b.first + r) 1 b.left (length (take n (drop (r * b.width) new))) (take n (drop (r * b.width) new))) after
      → AreRowsUpdatedTo step b (put_mid (r * b.width) n new after) (r + 1)
  slice_more n after e done =
      subst (λ k. AreRowsUpdatedTo step b (put_mid (r * b.width) k new after) (r + 1)) (sym e)
      (rows_more step b new (take b.width (drop (r * b.width) new)) r can u inside slice_len slice_same
      after (put_mid (r * b.width) b.width new after) here
      (put_length new after (r * b.width) b.width len row_fits)
      (λ k l. put_inside new after (r * b.width) b.width k (exact_ends 0) l len (omega (arith, row_fits)))
      (λ k l. put_below new after (r * b.width) b.width k (exact_ends 0) l (omega (arith, row_fits)))
      (λ k l. put_above new after (r * b.width) b.width k (exact_ends 0) l len row_fits))
    where
      here : AreAfter step
          (rows_from (b.first + r) 1 b.left (length (take b.width (drop (r * b.width) new))) (take b.width (drop (r * b.width) new))) after
      here = subst (λ k. AreAfter step
          (rows_from (b.first + r) 1 b.left (length (take k (drop (r * b.width) new))) (take k (drop (r * b.width) new))) after) e done

      len : length after ≡ b.width
      len = here.count ∙ slice_len

-- the first rows of some cells, as many as their length tells
module _ (step : OneElimination) (first rows left width : ℕ) (cells : List Ends) (inside : rows * width ≤ length cells)
    (can : CanEliminate step (rows_from first rows left width (take (rows * width) cells))) where
  counted : length (take (rows * width) cells) / width ≡ rows
  counted = rows_taken cells rows width (omega (arith, can.column.from, can.column.to)) inside

  pub can_first_rows : CanEliminate step
      (rows_from first (length (take (rows * width) cells) / width) left width (take (rows * width) cells))
  can_first_rows = subst (λ r. CanEliminate step (rows_from first r left width (take (rows * width) cells))) (sym counted) can

  pub first_rows_after : (new : List Ends)
      → AreAfter step (rows_from first (length (take (rows * width) cells) / width) left width (take (rows * width) cells)) new
      → (length new ≡ rows * width) × AreAfter step (rows_from first rows left width (take (rows * width) cells)) new
  first_rows_after new done = (
    done.count ∙ length_taken cells (rows * width) inside,
    subst (λ r. AreAfter step (rows_from first r left width (take (rows * width) cells)) new) counted done,
  )

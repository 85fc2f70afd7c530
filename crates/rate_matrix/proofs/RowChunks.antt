-- Rows of a band in chunks of whole rows.
use Rattle.std.proofs.Common.{◌≡◌, ◌≢◌, ℕ, ◌+◌, ◌-◌, ◌*◌, ◌/◌, ◌%◌, ◌<◌, ◌≤◌, min, List, length, get_or, sym, ap, subst, ◌∙◌, inl, inr, arith}
use Rattle.std.specs.Fork.{IsChunk}
use Rattle.std.proofs.lemmas.Bool.{cases_lt}
use Rattle.std.proofs.lemmas.Nat.{div-mul-add}
use Rattle.std.proofs.Math.Nat.{mul-le-mul_right, mul-pos, le_of_mul-le-mul_right, lt_of_mul-lt-mul_right}
use Rattle.fixed_interval.specs.Ends.{Ends, exact_ends}
use Rattle.rate_matrix.specs.Bands.{BandOfRows, HasRow, HasColumn, place_in, cell_of}
use Rattle.rate_matrix.specs.Rows.{OneElimination, entries_past, row_cap, AreAfter, CanEliminate, part_in, rows_from}
use Rattle.rate_matrix.proofs.RowsOfBand.{raised_entries-alike}

-- a chunk begins with a row
pub chunk_row : (c w start : ℕ) → 0 < c → 0 < w → start % (c * w) ≡ 0 → start ≡ start / w * w
chunk_row c w start hc hw e =
    let pos : 0 < c * w = mul-pos hc hw in
    let whole : start ≡ start / (c * w) * c * w = grind arith in
    let quotient : start / w ≡ start / (c * w) * c =
    ap (λ n. n / w) (whole ∙ add_zero_right (start / (c * w) * c * w)) ∙ div-mul-add (start / (c * w) * c) w 0 hw in
    whole ∙ ap (λ n. n * w) (sym quotient)
  where
    add_zero_right : (n : ℕ) → n ≡ n + 0
    add_zero_right n = omega arith

sum_rows : (w s d : ℕ) → (d + s) * w ≡ d * w + s * w
sum_rows w s d = omega arith

rest_rows : (w r s : ℕ) → s ≤ r → r * w ≡ (r - s) * w + s * w
rest_rows w r s l = let k : r ≡ r - s + s = omega arith in ap (λ x. x * w) k ∙ sum_rows w s (r - s)

-- and has whole rows
pub chunk_rows : (c w s r n : ℕ) → 0 < w → s ≤ r → n ≡ min (c * w) (r * w - s * w) → n ≡ n / w * w
chunk_rows c w s r n hw sr e = elim (cases_lt c (r - s)) [
  | inl l ↦
      let more : c * w ≤ (r - s) * w = mul-le-mul_right w (omega arith) in
      let is : n ≡ c * w = omega (arith, more, rest_rows w r s sr) in
      of_product n c is
  | inr l ↦
      let less : (r - s) * w ≤ c * w = mul-le-mul_right w l in
      let is : n ≡ (r - s) * w = omega (arith, less, rest_rows w r s sr) in
      of_product n (r - s) is
]
  where
    of_product : (n k : ℕ) → n ≡ k * w → n ≡ n / w * w
    of_product n k is =
        let quotient : n / w ≡ k = ap (λ m. m / w) (is ∙ (let z : k * w ≡ k * w + 0 = omega arith in z)) ∙ div-mul-add k w 0 hw in
        is ∙ ap (λ m. m * w) (sym quotient)

-- a chunk of a band's rows as a band of its own
module _ (step : OneElimination) (b : BandOfRows) (c start : ℕ) (part : List Ends)
    (can : CanEliminate step b) (some : 0 < c)
    (chunk : IsChunk b.cells (c * b.width) start part) where
  wide : 0 < b.width
  wide = omega (arith, can.column.from, can.column.to)

  s : ℕ
  s = start / b.width

  n : ℕ
  n = length part / b.width

  pub start_is : start ≡ start / b.width * b.width
  start_is = chunk_row c b.width start some wide chunk.start_is_multiple

  starts_inside : start / b.width < b.rows
  starts_inside = lt_of_mul-lt-mul_right b.width (
      let below : start / b.width * b.width < b.rows * b.width = omega (arith, start_is, chunk.nonempty, chunk.in_bounds, can.cells) in below)

  pub part_is : length part ≡ length part / b.width * b.width
  part_is = chunk_rows c b.width (start / b.width) b.rows (length part) wide (omega (arith, starts_inside))
      (chunk.len ∙ (let k : length b.cells - start ≡ b.rows * b.width - start / b.width * b.width = omega (arith, start_is, can.cells) in ap (min (c * b.width)) k))

  pub ends_inside : start / b.width + length part / b.width ≤ b.rows
  ends_inside = le_of_mul-le-mul_right {k = b.width} (
      let below : (start / b.width + length part / b.width) * b.width ≤ b.rows * b.width =
      omega (arith, start_is, part_is, chunk.in_bounds, can.cells) in below) wide

  abbrev sub : BandOfRows
  sub = rows_from (b.first + start / b.width) (length part / b.width) b.left b.width part

  row_of : (i : ℕ) → HasRow sub i → HasRow b i
  row_of i h = record { from = omega (arith, h.from); to = omega (arith, h.to, ends_inside) }

  column_of : (j : ℕ) → HasColumn sub j → HasColumn b j
  column_of j h = record { from = h.from; to = h.to }

  place_sub : (i j : ℕ) → HasRow sub i → start + place_in sub i j ≡ place_in b i j
  place_sub i j h =
      let d : i - b.first ≡ i - (b.first + start / b.width) + start / b.width = omega (arith, h.from) in
      let rows : (i - b.first) * b.width ≡ (i - (b.first + start / b.width)) * b.width + start / b.width * b.width =
      ap (λ x. x * b.width) d ∙ sum_rows b.width (start / b.width) (i - (b.first + start / b.width)) in
      omega (arith, start_is, rows)

  place_below : (i j : ℕ) → HasRow sub i → HasColumn b j → place_in sub i j < length part
  place_below i j h k =
      let row : (i - (b.first + start / b.width) + 1) * b.width ≤ length part / b.width * b.width = mul-le-mul_right b.width (omega (arith, h.from, h.to)) in
      omega (arith, row, part_is, k.from, k.to)

  pub cell_sub : (i j : ℕ) → HasRow sub i → HasColumn b j → cell_of sub i j ≡ cell_of b i j
  cell_sub i j h k =
      chunk.elements (place_in sub i j) (exact_ends 0) (place_below i j h k)
      ∙ ap (λ x. get_or b.cells x (exact_ends 0)) (place_sub i j h)

  pub can_chunk : CanEliminate step sub
  can_chunk = record {
    before = omega (arith, can.before, ends_inside);
    column = record { from = can.column.from; to = can.column.to };
    parts = can.parts;
    outflows = omega (arith, can.outflows, ends_inside);
    cells = part_is;
    caps = λ i h. can.caps i (row_of i h);
    ordered = λ i j h k ne. subst (λ e. e.lo ≤ e.hi) (sym (cell_sub i j h (column_of j k))) (can.ordered i j (row_of i h) (column_of j k) ne);
    capped = λ i j h k ne. subst (λ e. e.hi ≤ row_cap step i) (sym (cell_sub i j h (column_of j k))) (can.capped i j (row_of i h) (column_of j k) ne);
  }

  -- the chunk has the row of a place in it
  pub row_here : (i j offset : ℕ) → HasRow b i → HasColumn b j → start + offset ≡ place_in b i j → offset < length part
      → HasRow sub i
  row_here i j offset h k e l = record {
    from =
        let after : start / b.width < i - b.first + 1 = lt_of_mul-lt-mul_right b.width (
        let below : start / b.width * b.width < (i - b.first + 1) * b.width = omega (arith, start_is, k.from, k.to) in below) in
        omega (arith, after, h.from);
    to =
        let before : i - b.first < start / b.width + length part / b.width = lt_of_mul-lt-mul_right b.width (
        let below : (i - b.first) * b.width < (start / b.width + length part / b.width) * b.width = omega (arith, start_is, part_is) in below) in
        omega (arith, before, h.from);
  }

  pub cell_after : (i j offset : ℕ) (after : List Ends) (v : Ends) → HasRow b i → HasColumn b j → start + offset ≡ place_in b i j
      → offset < length part → AreAfter step sub after → get_or after offset (exact_ends 0) ≡ v
      → (v ≡ entries_past step (cell_of b) i j) × (i ≢ j → v.lo ≤ v.hi)
  cell_after i j offset after v h k e l done v_is =
      let row = row_here i j offset h k e l in
      let column : HasColumn sub j = record { from = k.from; to = k.to } in
      let place : place_in sub i j ≡ offset = omega (arith, place_sub i j row) in
      let here : cell_of (record sub { cells = after }) i j ≡ v = ap (λ x. get_or after x (exact_ends 0)) place ∙ v_is in (
        sym here ∙ done.each i j row column
            ∙ raised_entries-alike (part_in step.parts) (cell_of sub) (cell_of b) (row_cap step) step.state i j
            (cell_sub i j row k) (cell_sub i step.state row can.column),
        λ ne. subst (λ x. x.lo ≤ x.hi) here (done.ordered i j row column ne),
      )

-- all chunks together
pub chunks_after : (step : OneElimination) (b : BandOfRows) (new : List Ends)
    → CanEliminate step b → length new ≡ length b.cells
    → ((i j : ℕ) → HasRow b i → HasColumn b j
    → (cell_of (record b { cells = new }) i j ≡ entries_past step (cell_of b) i j)
    × (i ≢ j → (cell_of (record b { cells = new }) i j).lo ≤ (cell_of (record b { cells = new }) i j).hi))
    → AreAfter step b new
chunks_after step b new can count each = record {
  count = count;
  each = λ i j h k. (each i j h k).0;
  ordered = λ i j h k. (each i j h k).1;
}

-- A band of the matrix before and after the elimination of a state.
use Rattle.std.proofs.Common.{◌≡◌, ◌≢◌, ℕ, ◌+◌, ◌-◌, ◌*◌, ◌<◌, ◌≤◌, ◌⊎◌, true, false, min, List, length, take, drop, get_or, refl, sym, ap, subst, ◌∙◌, inl, inr, true≢false, arith, rules}
use Rattle.std.specs.Prelude.{if◌then◌else◌}
use Rattle.std.proofs.lemmas.Bool.{cases_lt, cases_eq}
use Rattle.std.proofs.lemmas.List.{places}
use Rattle.std.proofs.Math.Nat.{mul-le-mul_right}
use Rattle.fixed_interval.specs.Ends.{Ends, exact_ends, times_part_ends}
use Rattle.hyper_model.proofs.Sums.{on_test}
use Rattle.rate_matrix.specs.Elimination.{Entries, raised_entries}
use Rattle.rate_matrix.specs.Bands.{BandOfRows, HasRow, HasColumn, has_column, band_entry, place_in, cell_of}
use Rattle.rate_matrix.specs.Rows.{OneElimination, entries_past, row_cap, rows_before, AreAfter, CanEliminate, CanUpdate, IsUpdated, part_in, rows_from}
use Rattle.rate_matrix.proofs.Raising.{is_raised-from, is_raised-to, is_raised-itself, raised_entries-before, raised_entries-stays}
use Rattle.rate_matrix.proofs.RowUpdates.{raised_entry-nothing, nothing_to_give, no_part}
use Rattle.rate_matrix.proofs.RowsOfBand.{raised_entries-alike}
use Rattle.rate_matrix.proofs.BandLemmas.{band_entry_kept, band_entry_none, cells_shape, has_column_of, has_column_true, same_shape}

-- an entry to which nothing is added
pub raised_entries-nothing : (parts : ℕ → Ends) (a : Entries) (caps : ℕ → ℕ) (t i j : ℕ)
    → (i ≢ j → (a i j).lo ≤ (a i j).hi) → (i ≢ j → (a i j).hi ≤ caps i)
    → (i < t → j < t → times_part_ends (a i t) (parts j) ≡ exact_ends 0)
    → raised_entries parts a caps t i j ≡ a i j
raised_entries-nothing parts a caps t i j ordered capped none = elim (cases_eq i j) [
  | inl e ↦ raised_entries-stays parts a caps t i j (is_raised-itself t i j e)
  | inr ne ↦ elim (cases_lt i t) [
    | inl l ↦ elim (cases_lt j t) [
      | inl k ↦ raised_entries-before parts a caps t i j l k ne ∙ raised_entry-nothing (a i j) (a i t) (parts j) (caps i) (ordered ne) (capped ne) (none l k)
      | inr k ↦ raised_entries-stays parts a caps t i j (is_raised-to t i j k)
    ]
    | inr l ↦ raised_entries-stays parts a caps t i j (is_raised-from t i j l)
  ]
]

zero_times : (part : Ends) → times_part_ends (exact_ends 0) part ≡ exact_ends 0
zero_times part = nothing_to_give (exact_ends 0) part (omega arith) refl

times_zero : (into : Ends) → times_part_ends into (exact_ends 0) ≡ exact_ends 0
times_zero into = no_part into (exact_ends 0) (omega arith) refl

if_kept : (b : BandOfRows) (state : ℕ) → has_column b state ≡ true → rows_before b state ≡ min b.rows (state - b.first)
if_kept b state t = ap {B = ℕ} (λ c. if c then min b.rows (state - b.first) else 0) t

if_not_kept : (b : BandOfRows) (state : ℕ) → has_column b state ≡ false → rows_before b state ≡ 0
if_not_kept b state f = ap {B = ℕ} (λ c. if c then min b.rows (state - b.first) else 0) f

module _ (step : OneElimination) (b : BandOfRows) (can : CanUpdate step b) where
  in_order : (i j : ℕ) → HasRow b i → i ≢ j → (band_entry b i j).lo ≤ (band_entry b i j).hi
  in_order i j h ne = on_test (has_column b j)
      (λ t. let k = has_column_of b j t in subst (λ e. e.lo ≤ e.hi) (sym (band_entry_kept b i j k)) (can.ordered i j h k ne))
      (λ f. subst (λ e. e.lo ≤ e.hi) (sym (band_entry_none b i j f)) (omega arith))

  in_cap : (i j : ℕ) → HasRow b i → i ≢ j → (band_entry b i j).hi ≤ row_cap step i
  in_cap i j h ne = on_test (has_column b j)
      (λ t. let k = has_column_of b j t in subst (λ e. e.hi ≤ row_cap step i) (sym (band_entry_kept b i j k)) (can.capped i j h k ne))
      (λ f. subst (λ e. e.hi ≤ row_cap step i) (sym (band_entry_none b i j f)) (omega arith))

  -- a band that has no row before the state, or does not keep its column
  stays_if : (min b.rows (step.state - b.first) ≡ 0) ⊎ (has_column b step.state ≡ false) → IsUpdated step b b
  stays_if why = record {
    shape = same_shape b;
    count = refl;
    each = λ i j h. sym (raised_entries-nothing (part_in step.parts) (band_entry b) (row_cap step) step.state i j (in_order i j h) (in_cap i j h)
        (λ l k. elim why [
          | inl e ↦ absurd (omega (arith, h.from, h.to))
          | inr f ↦ ap (λ x. times_part_ends x (part_in step.parts j)) (band_entry_none b i step.state f) ∙ zero_times (part_in step.parts j)
        ]));
    ordered = in_order;
  }

  pub stays : rows_before b step.state ≡ 0 → IsUpdated step b b
  stays none = on_test (has_column b step.state)
      (λ t. stays_if (inl (sym (if_kept b step.state t) ∙ none)))
      (λ f. stays_if (inr f))

  -- the rows before the state as a band of their own
  module _ (rows : ℕ) (rows_is : rows ≡ min b.rows (step.state - b.first)) (some : 0 < rows) (column : HasColumn b step.state) where
    abbrev head : BandOfRows
    head = rows_from b.first rows b.left b.width (take (rows * b.width) b.cells)

    pub head_fits : rows * b.width ≤ length b.cells
    head_fits =
        let less : rows * b.width ≤ b.rows * b.width = mul-le-mul_right b.width (omega arith) in
        omega (arith, less, can.cells)

    head_row : (i : ℕ) → HasRow head i → HasRow b i
    head_row i h = record { from = h.from; to = omega (arith, h.to) }

    head_column : (j : ℕ) → HasColumn head j → HasColumn b j
    head_column j h = record { from = h.from; to = h.to }

    head_place : (i j : ℕ) → HasRow head i → HasColumn b j → place_in b i j < rows * b.width
    head_place i j h k =
        let row : (i - b.first + 1) * b.width ≤ rows * b.width = mul-le-mul_right b.width (omega (arith, h.from, h.to)) in
        omega (arith, row, k.from, k.to)

    taken : (cells : List Ends) (p : ℕ) → p < rows * b.width → get_or (take (rows * b.width) cells) p (exact_ends 0) ≡ get_or cells p (exact_ends 0)
    taken cells p l = search (rules, places)

    dropped : (cells : List Ends) (p : ℕ) → rows * b.width ≤ p → get_or cells p (exact_ends 0) ≡ get_or (drop (rows * b.width) cells) (p - rows * b.width) (exact_ends 0)
    dropped cells p l = let e : rows * b.width + (p - rows * b.width) ≡ p = omega arith in
        ap (λ k. get_or cells k (exact_ends 0)) (sym e) ∙ sym (at_drop cells (rows * b.width) (p - rows * b.width))
      where
        at_drop : (xs : List Ends) (a k : ℕ) → get_or (drop a xs) k (exact_ends 0) ≡ get_or xs (a + k) (exact_ends 0)
        at_drop xs a k = search (rules, places)

    head_cell : (i j : ℕ) → HasRow head i → HasColumn b j → cell_of head i j ≡ cell_of b i j
    head_cell i j h k = taken b.cells (place_in b i j) (head_place i j h k)

    pub can_head : CanEliminate step (rows_from b.first rows b.left b.width (take (rows * b.width) b.cells))
    can_head = record {
      before = omega arith;
      column = record { from = column.from; to = column.to };
      parts = can.parts;
      outflows =
          let last = can.outflows (b.first + rows - 1) (record { from = omega arith; to = omega arith }) in
          omega (arith, last);
      cells = length_taken b.cells (rows * b.width) head_fits;
      caps = λ i h. can.caps i (head_row i h);
      ordered = λ i j h k ne. subst (λ e. e.lo ≤ e.hi) (sym (head_cell i j h (head_column j k))) (can.ordered i j (head_row i h) (head_column j k) ne);
      capped = λ i j h k ne. subst (λ e. e.hi ≤ row_cap step i) (sym (head_cell i j h (head_column j k))) (can.capped i j (head_row i h) (head_column j k) ne);
    }
      where
        length_taken : (xs : List Ends) (n : ℕ) → n ≤ length xs → length (take n xs) ≡ n
        length_taken xs n h = search (rules, places)

    pub updated_band : (new : List Ends) → length new ≡ length b.cells
        → AreAfter step (rows_from b.first rows b.left b.width (take (rows * b.width) b.cells)) (take (rows * b.width) new)
        → drop (rows * b.width) new ≡ drop (rows * b.width) b.cells
        → IsUpdated step b (record b { cells = new })
    updated_band new count done rest = record {
      shape = cells_shape b new;
      count = count;
      each = λ i j h. (each_and_order i j h).0;
      ordered = λ i j h. (each_and_order i j h).1;
    }
      where
        after : BandOfRows
        after = record b { cells = new }

        kept : (i j : ℕ) → HasRow b i → HasColumn b j
            → (cell_of (record b { cells = new }) i j ≡ entries_past step (band_entry b) i j)
            × (i ≢ j → (cell_of (record b { cells = new }) i j).lo ≤ (cell_of (record b { cells = new }) i j).hi)
        kept i j h k = elim (cases_lt i (b.first + rows)) [
          | inl l ↦
              let hi : HasRow head i = record { from = h.from; to = l } in
              let kj : HasColumn head j = record { from = k.from; to = k.to } in
              let here : cell_of (record b { cells = new }) i j ≡ get_or (take (rows * b.width) new) (place_in b i j) (exact_ends 0) = sym (taken new (place_in b i j) (head_place i j hi k)) in (
                here
                    ∙ done.each i j hi kj
                    ∙ raised_entries-alike (part_in step.parts) (cell_of head) (band_entry b) (row_cap step) step.state i j
                    (head_cell i j hi k ∙ sym (band_entry_kept b i j k))
                    (head_cell i step.state hi column ∙ sym (band_entry_kept b i step.state column)),
                λ ne. subst (λ x. x.lo ≤ x.hi) (sym here) (done.ordered i j hi kj ne),
              )
          | inr g ↦
              let later : rows * b.width ≤ (i - b.first) * b.width = mul-le-mul_right b.width (omega (arith, h.from)) in
              let same : cell_of (record b { cells = new }) i j ≡ cell_of b i j =
              dropped new (place_in b i j) (omega (arith, later))
              ∙ ap (λ x. get_or x (place_in b i j - rows * b.width) (exact_ends 0)) rest
              ∙ sym (dropped b.cells (place_in b i j) (omega (arith, later))) in (
                same ∙ sym (band_entry_kept b i j k)
                    ∙ sym (raised_entries-stays (part_in step.parts) (band_entry b) (row_cap step) step.state i j (is_raised-from step.state i j (omega (arith, h.to)))),
                λ ne. subst (λ x. x.lo ≤ x.hi) (sym same) (can.ordered i j h k ne),
              )
        ]

        each_and_order : (i j : ℕ) → HasRow b i
            → (band_entry (record b { cells = new }) i j ≡ entries_past step (band_entry b) i j)
            × (i ≢ j → (band_entry (record b { cells = new }) i j).lo ≤ (band_entry (record b { cells = new }) i j).hi)
        each_and_order i j h = on_test (has_column b j)
            (λ t. let k = has_column_of b j t in
            let is = band_entry_kept (record b { cells = new }) i j (record { from = k.from; to = k.to }) in
            (is ∙ (kept i j h k).0, λ ne. subst (λ x. x.lo ≤ x.hi) (sym is) ((kept i j h k).1 ne)))
            (λ f. let is = band_entry_none (record b { cells = new }) i j f in (
              is ∙ sym (band_entry_none b i j f)
                  ∙ sym (raised_entries-nothing (part_in step.parts) (band_entry b) (row_cap step) step.state i j (in_order i j h) (in_cap i j h)
                  (λ l k. ap (times_part_ends (band_entry b i step.state)) (can.outside i j h l column k (λ q. true≢false (sym (has_column_true b j q) ∙ f))) ∙ times_zero (band_entry b i step.state))),
              λ ne. subst (λ x. x.lo ≤ x.hi) (sym is) (omega arith),
            ))

-- the rows before the state, for cells as the code has them
module _ (step : OneElimination) (b : BandOfRows) (can : CanUpdate step b) (rows : ℕ) (rows_is : rows ≡ rows_before b step.state)
    (some : 0 < rows) where
  kept : HasColumn b step.state
  kept = on_test (has_column b step.state)
      (λ t. has_column_of b step.state t)
      (λ f. absurd (omega (arith, rows_is ∙ if_not_kept b step.state f)))

  all_rows : rows ≡ min b.rows (step.state - b.first)
  all_rows = rows_is ∙ if_kept b step.state (has_column_true b step.state kept)

  pub can_first : (cells : List Ends) → cells ≡ b.cells
      → CanEliminate step (rows_from b.first rows b.left b.width (take (rows * b.width) cells))
  can_first cells is =
      subst (λ x. CanEliminate step (rows_from b.first rows b.left b.width (take (rows * b.width) x))) (sym is)
      (can_head step b can rows all_rows some kept)

  pub updated_cells : (old new left : List Ends) → old ≡ b.cells → left ≡ new → length new ≡ length old
      → AreAfter step (rows_from b.first rows b.left b.width (take (rows * b.width) old)) (take (rows * b.width) new)
      → drop (rows * b.width) new ≡ drop (rows * b.width) old
      → IsUpdated step b (record b { cells = left })
  updated_cells old new left old_is left_is count done rest =
      subst (λ x. IsUpdated step b (record b { cells = x })) (sym left_is)
      (updated_band step b can rows all_rows some kept new (count ∙ ap length old_is)
      (subst (λ x. AreAfter step (rows_from b.first rows b.left b.width (take (rows * b.width) x)) (take (rows * b.width) new)) old_is done)
      (rest ∙ ap (drop (rows * b.width)) old_is))

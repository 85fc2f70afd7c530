-- One row while a state is eliminated, cell by cell.
use Rattle.std.proofs.Common.{◌≡◌, ◌≢◌, ℕ, ◌+◌, ◌-◌, ◌*◌, ◌/◌, ◌^◌, ◌<◌, ◌≤◌, true, cond, eqb, min, List, length, length-set, get_or, set, get_or-set_same, get_or-set_other, refl, sym, ap, subst, ◌∙◌, inl, inr, arith}
use Rattle.std.specs.Int.{div_ceil}
use Rattle.std.proofs.lemmas.Bool.{cases_lt, cases_eq, ne_eqb}
use Rattle.std.proofs.lemmas.List.{get_or_read}
use Rattle.std.proofs.lemmas.Bool.Decides.{nat_tests}
use Rattle.fixed_interval.specs.Ends.{Ends, exact_ends, between, times_part_ends}
use Rattle.rate_matrix.specs.Elimination.{Entries, raised_entry, raised_entries}
use Rattle.rate_matrix.specs.Bands.{BandOfRows, place_in, cell_of}
use Rattle.rate_matrix.specs.Rows.{OneElimination, entries_past, row_cap, AreAfter, CanEliminate, part_in, rows_from}
use Rattle.rate_matrix.proofs.Raising.{is_raised-to, is_raised-itself, raised_entries-before, raised_entries-stays}

-- nothing is added if there is nothing to give, or no part of it goes there
pub raised_entry-nothing : (old into part : Ends) (cap : ℕ) → old.lo ≤ old.hi → old.hi ≤ cap
    → times_part_ends into part ≡ exact_ends 0 → raised_entry old into part cap ≡ old
raised_entry-nothing old into part cap ordered capped none =
    ap (λ e. between (min (old.lo + e.lo) cap) (min (old.hi + e.hi) cap)) none
    ∙ same_ends (omega arith) (omega arith)
  where
    same_ends : min (old.lo + 0) cap ≡ old.lo → min (old.hi + 0) cap ≡ old.hi
        → between (min (old.lo + 0) cap) (min (old.hi + 0) cap) ≡ old
    same_ends p q = rw (p, q) refl

none_times : (k : ℕ) → 0 * k / 2 ^ 62 ≡ 0
none_times k = let z : 0 * k ≡ 0 = omega arith in rw z refl

none_times_up : (k : ℕ) → div_ceil (0 * k) (2 ^ 62) ≡ 0
none_times_up k = let z : 0 * k ≡ 0 = omega arith in rw z refl

times_none : (k : ℕ) → k * 0 / 2 ^ 62 ≡ 0
times_none k = let z : k * 0 ≡ 0 = omega arith in rw z refl

times_none_up : (k : ℕ) → div_ceil (k * 0) (2 ^ 62) ≡ 0
times_none_up k = let z : k * 0 ≡ 0 = omega arith in rw z refl

pub nothing_to_give : (into part : Ends) → into.lo ≤ into.hi → into.hi ≡ 0 → times_part_ends into part ≡ exact_ends 0
nothing_to_give into part ordered none =
    let low : into.lo ≡ 0 = omega arith in
    rw (low, none, none_times part.lo, none_times_up part.hi) refl

pub no_part : (into part : Ends) → part.lo ≤ part.hi → part.hi ≡ 0 → times_part_ends into part ≡ exact_ends 0
no_part into part ordered none =
    let low : part.lo ≡ 0 = omega arith in
    rw (low, none, times_none into.lo, times_none_up into.hi) refl

-- the entry that a row has at column j after the elimination, if j is before the state
abbrev pub new_entry : ℕ → ℕ → Ends → Ends → Ends → ℕ → Ends
new_entry i j old into part cap = cond (eqb i j) old (raised_entry old into part cap)

pub new_entry_is : (parts : ℕ → Ends) (a : Entries) (caps : ℕ → ℕ) (t i j : ℕ) → i < t → j < t
    → new_entry i j (a i j) (a i t) (parts j) (caps i) ≡ raised_entries parts a caps t i j
new_entry_is parts a caps t i j l k = elim (cases_eq i j) [
  | inl e ↦
      let test : eqb i j ≡ true = grind (arith, nat_tests) in
      ap (λ b. cond b (a i j) (raised_entry (a i j) (a i t) (parts j) (caps i))) test
      ∙ sym (raised_entries-stays parts a caps t i j (is_raised-itself t i j e))
  | inr ne ↦
      ap (λ b. cond b (a i j) (raised_entry (a i j) (a i t) (parts j) (caps i))) (ne_eqb i j ne)
      ∙ sym (raised_entries-before parts a caps t i j l k ne)
]

-- a row's cell at column j
abbrev pub one_row : ℕ → ℕ → List Ends → BandOfRows
one_row i left cells = rows_from i 1 left (length cells) cells

pub row_place : (b : BandOfRows) (i q : ℕ) → b.first ≡ i → place_in b i (b.left + q) ≡ q
row_place b i q e =
    let here : i - b.first ≡ 0 = omega arith in
    let column : b.left + q - b.left ≡ q = omega arith in
    rw (here, column) (omega arith)

-- the first q cells of the row are updated
pub record IsRowUpdatedTo (step : OneElimination) (i left : ℕ) (old new : List Ends) (q : ℕ) : Type 0 where
  pub count : length new ≡ length old
  pub done : (k : ℕ) → k < q → get_or new k (exact_ends 0)
      ≡ new_entry i (left + k) (get_or old k (exact_ends 0)) (get_or old (step.state - left) (exact_ends 0)) (part_in step.parts (left + k)) (row_cap step i)
  pub ordered : (k : ℕ) → k < q → i ≢ left + k → (get_or new k (exact_ends 0)).lo ≤ (get_or new k (exact_ends 0)).hi
  pub rest : (k : ℕ) → q ≤ k → get_or new k (exact_ends 0) ≡ get_or old k (exact_ends 0)

pub row_starts : (step : OneElimination) (i left : ℕ) (old : List Ends)
    → IsRowUpdatedTo step i left old old 0
row_starts step i left old = record {
  count = refl;
  done = λ k l. absurd (omega arith);
  ordered = λ k l. absurd (omega arith);
  rest = λ k l. refl;
}

pub row_more : (step : OneElimination) (i left : ℕ) (old new : List Ends) (q : ℕ) (cell into part v : Ends) (cap : ℕ)
    → IsRowUpdatedTo step i left old new q → q < length old
    → cell ≡ get_or new q cell → into ≡ get_or old (step.state - left) (exact_ends 0) → part ≡ part_in step.parts (left + q)
    → cap ≡ row_cap step i → v ≡ new_entry i (left + q) cell into part cap → (i ≢ left + q → v.lo ≤ v.hi)
    → IsRowUpdatedTo step i left old (set new q v) (q + 1)
row_more step i left old new q cell into part v cap r l cell_is into_is part_is cap_is v_is ordered = record {
  count = length-set new q v ∙ r.count;
  done = λ k h. elim (cases_eq k q) [
    | inl e ↦ subst (λ z. get_or (set new q v) z (exact_ends 0) ≡ new_entry i (left + z) (get_or old z (exact_ends 0)) (get_or old (step.state - left) (exact_ends 0)) (part_in step.parts (left + z)) (row_cap step i)) (sym e) here
    | inr ne ↦ get_or-set_other new q k v (exact_ends 0) ne ∙ r.done k (omega (arith, ne))
  ];
  ordered = λ k h apart. elim (cases_eq k q) [
    | inl e ↦ subst (λ z. (get_or (set new q v) z (exact_ends 0)).lo ≤ (get_or (set new q v) z (exact_ends 0)).hi) (sym e)
        (subst (λ z. z.lo ≤ z.hi) (sym (get_or-set_same new q v (exact_ends 0) inside)) (ordered (λ same. apart (same ∙ ap (λ z. left + z) (sym e)))))
    | inr ne ↦ subst (λ z. z.lo ≤ z.hi) (sym (get_or-set_other new q k v (exact_ends 0) ne)) (r.ordered k (omega (arith, ne)) apart)
  ];
  rest = λ k h.
      let ne : k ≢ q = omega arith in
      get_or-set_other new q k v (exact_ends 0) ne ∙ r.rest k (omega arith);
}
  where
    inside : q < length new
    inside = omega (arith, r.count)

    old_cell : cell ≡ get_or old q (exact_ends 0)
    old_cell = get_or_read new q cell inside cell_is (exact_ends 0) ∙ r.rest q (omega arith)

    here : get_or (set new q v) q (exact_ends 0) ≡ new_entry i (left + q) (get_or old q (exact_ends 0)) (get_or old (step.state - left) (exact_ends 0)) (part_in step.parts (left + q)) (row_cap step i)
    here = get_or-set_same new q v (exact_ends 0) inside ∙ v_is ∙ cc (old_cell, into_is, part_is, cap_is)

-- the whole row
pub row_ends : (step : OneElimination) (i left : ℕ) (old new : List Ends)
    → CanEliminate step (one_row i left old)
    → IsRowUpdatedTo step i left old new (step.state - left)
    → AreAfter step (one_row i left old) new
row_ends step i left old new can r = record {
  count = r.count;
  each = λ p j rp cj.
      let p_is : i ≡ p = omega (arith, rp.from, rp.to) in
      let j_is : left + (j - left) ≡ j = omega (arith, cj.from) in
      subst (λ z. cell_of (record (one_row i left old) { cells = new }) z j ≡ entries_past step (cell_of (one_row i left old)) z j) p_is
      (subst (λ z. cell_of (record (one_row i left old) { cells = new }) i z ≡ entries_past step (cell_of (one_row i left old)) i z) j_is
      (cell_after (j - left)));
  ordered = λ p j rp cj ne.
      let p_is : i ≡ p = omega (arith, rp.from, rp.to) in
      let j_is : left + (j - left) ≡ j = omega (arith, cj.from) in
      let apart : i ≢ left + (j - left) = λ e. ne (sym p_is ∙ e ∙ j_is) in
      subst (λ z. (cell_of (record (one_row i left old) { cells = new }) z j).lo ≤ (cell_of (record (one_row i left old) { cells = new }) z j).hi) p_is
      (subst (λ z. (cell_of (record (one_row i left old) { cells = new }) i z).lo ≤ (cell_of (record (one_row i left old) { cells = new }) i z).hi) j_is
      (ordered_after (j - left) (omega (arith, cj.from, cj.to)) apart));
}
  where
    before : i < step.state
    before = omega (arith, can.before)

    column : left ≤ step.state
    column = can.column.from

    read : (cells : List Ends) (q : ℕ) → cell_of (record (one_row i left old) { cells = cells }) i (left + q) ≡ get_or cells q (exact_ends 0)
    read cells q = ap (λ k. get_or cells k (exact_ends 0)) (row_place (record (one_row i left old) { cells = cells }) i q refl)

    into : cell_of (one_row i left old) i step.state ≡ get_or old (step.state - left) (exact_ends 0)
    into = let e : left + (step.state - left) ≡ step.state = omega (arith, column) in
        subst (λ z. cell_of (one_row i left old) i z ≡ get_or old (step.state - left) (exact_ends 0)) e (read old (step.state - left))

    cell_after : (q : ℕ) → cell_of (record (one_row i left old) { cells = new }) i (left + q)
        ≡ entries_past step (cell_of (one_row i left old)) i (left + q)
    cell_after q = elim (cases_lt q (step.state - left)) [
      | inl l ↦
          read new q
          ∙ r.done q l
          ∙ ap (λ z. new_entry i (left + q) z (get_or old (step.state - left) (exact_ends 0)) (part_in step.parts (left + q)) (row_cap step i)) (sym (read old q))
          ∙ ap (λ z. new_entry i (left + q) (cell_of (one_row i left old) i (left + q)) z (part_in step.parts (left + q)) (row_cap step i)) (sym into)
          ∙ new_entry_is (part_in step.parts) (cell_of (one_row i left old)) (row_cap step) step.state i (left + q) before (omega (arith, column))
      | inr h ↦
          read new q
          ∙ r.rest q h
          ∙ sym (read old q)
          ∙ sym (raised_entries-stays (part_in step.parts) (cell_of (one_row i left old)) (row_cap step) step.state i (left + q)
          (is_raised-to step.state i (left + q) (omega (arith, column))))
    ]

    ordered_after : (q : ℕ) → q < length old → i ≢ left + q
        → (cell_of (record (one_row i left old) { cells = new }) i (left + q)).lo ≤ (cell_of (record (one_row i left old) { cells = new }) i (left + q)).hi
    ordered_after q l apart = subst (λ z. z.lo ≤ z.hi) (sym (read new q)) (elim (cases_lt q (step.state - left)) [
      | inl k ↦ r.ordered q k apart
      | inr k ↦ subst (λ z. z.lo ≤ z.hi) (sym (r.rest q k))
          (subst (λ z. z.lo ≤ z.hi) (read old q)
          (can.ordered i (left + q) (record { from = omega arith; to = omega arith }) (record { from = omega arith; to = omega arith }) apart))
    ])

-- a row that gives the state nothing stays as it is
pub row_stays : (step : OneElimination) (i left : ℕ) (old : List Ends)
    → CanEliminate step (one_row i left old)
    → (get_or old (step.state - left) (exact_ends 0)).hi ≡ 0
    → (get_or old (step.state - left) (exact_ends 0)).lo ≤ (get_or old (step.state - left) (exact_ends 0)).hi
    → AreAfter step (one_row i left old) old
row_stays step i left old can none ordered =
    row_ends step i left old old can record {
      count = refl;
      done = λ k l. elim (cases_eq i (left + k)) [
        | inl e ↦
            let test : eqb i (left + k) ≡ true = grind (arith, nat_tests) in
            sym (ap (λ b. cond b (cell k) (raised_entry (cell k) (cell (step.state - left)) (part_in step.parts (left + k)) (row_cap step i))) test)
        | inr ne ↦
            sym (ap (λ b. cond b (cell k) (raised_entry (cell k) (cell (step.state - left)) (part_in step.parts (left + k)) (row_cap step i))) (ne_eqb i (left + k) ne)
            ∙ raised_entry-nothing (cell k) (cell (step.state - left)) (part_in step.parts (left + k)) (row_cap step i)
            (in_order k (omega (arith, column)) ne) (in_cap k (omega (arith, column)) ne)
            (nothing_to_give (cell (step.state - left)) (part_in step.parts (left + k)) ordered none))
      ];
      ordered = λ k l ne. in_order k (omega (arith, column)) ne;
      rest = λ k l. refl;
    }
  where
    cell : ℕ → Ends
    cell k = get_or old k (exact_ends 0)

    column : step.state < left + length old
    column = can.column.to

    place : (k : ℕ) → place_in (one_row i left old) i (left + k) ≡ k
    place k = row_place (one_row i left old) i k refl

    in_order : (k : ℕ) → k < length old → i ≢ left + k → (get_or old k (exact_ends 0)).lo ≤ (get_or old k (exact_ends 0)).hi
    in_order k l ne = subst (λ z. (get_or old z (exact_ends 0)).lo ≤ (get_or old z (exact_ends 0)).hi) (place k)
        (can.ordered i (left + k) (record { from = omega arith; to = omega arith }) (record { from = omega arith; to = omega arith }) ne)

    in_cap : (k : ℕ) → k < length old → i ≢ left + k → (get_or old k (exact_ends 0)).hi ≤ row_cap step i
    in_cap k l ne = subst (λ z. (get_or old z (exact_ends 0)).hi ≤ row_cap step i) (place k)
        (can.capped i (left + k) (record { from = omega arith; to = omega arith }) (record { from = omega arith; to = omega arith }) ne)

-- a cell as it is read, before it is updated
pub read_old : (step : OneElimination) (i left : ℕ) (old new : List Ends) (q : ℕ) (cell : Ends)
    → IsRowUpdatedTo step i left old new q → q < length old → cell ≡ get_or new q cell
    → cell ≡ cell_of (one_row i left old) i (left + q)
read_old step i left old new q cell r l e =
    get_or_read new q cell (omega (arith, r.count)) e (exact_ends 0)
    ∙ r.rest q (omega arith)
    ∙ ap (λ k. get_or old k (exact_ends 0)) (sym (row_place (one_row i left old) i q refl))

pub read_ordered : (step : OneElimination) (i left : ℕ) (old new : List Ends) (q : ℕ) (cell : Ends)
    → CanEliminate step (one_row i left old)
    → IsRowUpdatedTo step i left old new q → q < length old → cell ≡ get_or new q cell
    → i ≢ left + q → cell.lo ≤ cell.hi
read_ordered step i left old new q cell can r l e ne =
    subst (λ z. z.lo ≤ z.hi) (sym (read_old step i left old new q cell r l e))
    (can.ordered i (left + q) (record { from = omega arith; to = omega arith }) (record { from = omega arith; to = omega arith }) ne)

pub read_capped : (step : OneElimination) (i left : ℕ) (old new : List Ends) (q : ℕ) (cell : Ends)
    → CanEliminate step (one_row i left old)
    → IsRowUpdatedTo step i left old new q → q < length old → cell ≡ get_or new q cell
    → i ≢ left + q → cell.hi ≤ row_cap step i
read_capped step i left old new q cell can r l e ne =
    subst (λ z. z.hi ≤ row_cap step i) (sym (read_old step i left old new q cell r l e))
    (can.capped i (left + q) (record { from = omega arith; to = omega arith }) (record { from = omega arith; to = omega arith }) ne)

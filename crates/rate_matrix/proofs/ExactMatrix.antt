-- A matrix of exact entries, filled row by row, and why it is sound.
use Rattle.std.proofs.Common.{◌≡◌, ◌≢◌, ℕ, ◌+◌, ◌*◌, ◌/◌, ◌^◌, ◌<◌, ◌≤◌, Bool, false, nat_le, nat_lt, ◌&&◌, List, [], ◌∷◌, ◌++◌, length, length-set, set, get_or, slice_index, refl, sym, ap, subst, ◌∙◌, inl, inr, arith}
use Rattle.std.proofs.lemmas.Bool.{cases_eq}
use Rattle.std.proofs.lemmas.List.{length_push, get_or_append_left, get_or_push}
use Rattle.std.proofs.Math.Nat.{mul-le-mul_left, mul-le-mul_right}
use Rattle.fixed_interval.specs.Ends.{exact_ends}
use Rattle.hyper_model.specs.Sums.{sum_below}
use Rattle.hyper_model.specs.Tables.{RateTable, Descends, between_states}
use Rattle.hyper_model.proofs.Sums.{on_test, sum-same, sum-scaled, place_le_sum}
use Rattle.hyper_model.proofs.WordRates.{descends_between}
use Rattle.rate_matrix.specs.Elimination.{IsLive, IsWithin, outflow_of}
use Rattle.rate_matrix.specs.Bands.{BandOfRows, BandedRates, HasRow, HasColumn, HasSameShape, IsBanded, IsMatrixOf, IsSound, band_at, band_of, cap, cell_of, entry, has_column, layout, matrix_of_bands}
use Rattle.rate_matrix.proofs.BandLemmas.{band_changed, band_entry_kept, band_entry_none, band_read, banded_changed, entry_is, has_column_of, level_read, same_shape, shape_column}

-- the scale of a chain
pub scale_wide : (top : ℕ) → 1 ≤ top → top ≤ 2 ^ 36 → 2 ^ 26 ≤ 2 ^ 62 / top
scale_wide top l h =
    let scale = 2 ^ 62 / top in
    let product : top * (2 ^ 62 / top) ≤ 2 ^ 36 * (2 ^ 62 / top) = mul-le-mul_right (2 ^ 62 / top) h in
    omega arith

pub scale_fits : (top : ℕ) → 1 ≤ top → 2 ^ 62 / top * top ≤ 2 ^ 62
scale_fits top l = omega arith

-- the first rows are filled
pub record AreFilledTo (n : ℕ) (rates : RateTable) (scale : ℕ) (packed : Bool) (levels : List ℕ) (i : ℕ) (old new : List BandOfRows) (outflows : List ℕ) : Type 0 where
  pub count : length new ≡ length old
  pub shape : (l : ℕ) → HasSameShape (band_at (layout n packed levels old) l) (band_at (layout n packed levels new) l)
  pub cells : (l : ℕ) → l < length old
      → length (band_at (layout n packed levels new) l).cells ≡ length (band_at (layout n packed levels old) l).cells
  pub flow_count : length outflows ≡ i
  pub flow : (p : ℕ) → p < i → slice_index outflows p ≡ outflow_of n rates p
  pub done : (p q : ℕ) → p < i → q < n → HasColumn (band_of (layout n packed levels old) p) q
      → cell_of (band_of (layout n packed levels new) p) p q ≡ exact_ends (scale * between_states rates p q)

pub filled_none : (n : ℕ) (rates : RateTable) (scale : ℕ) (packed : Bool) (levels : List ℕ) (old : List BandOfRows)
    → AreFilledTo n rates scale packed levels 0 old old []
filled_none n rates scale packed levels old = record {
  count = refl;
  shape = λ l. same_shape _;
  cells = λ l h. refl;
  flow_count = refl;
  flow = λ p l. absurd (omega arith);
  done = λ p q l lq k. absurd (omega arith);
}

pub filled_banded : (n : ℕ) (rates : RateTable) (scale : ℕ) (packed : Bool) (levels : List ℕ) (i : ℕ) (old new : List BandOfRows) (outflows : List ℕ)
    → IsBanded (layout n packed levels old) → AreFilledTo n rates scale packed levels i old new outflows
    → IsBanded (layout n packed levels new)
filled_banded n rates scale packed levels i old new outflows b f =
    banded_changed (layout n packed levels old) new b f.count f.shape f.cells

-- a row of rates as it is filled
pub record IsRowOf (n : ℕ) (rates : RateTable) (scale i : ℕ) (old new : BandOfRows) (flow : ℕ) : Type 0 where
  pub shape : HasSameShape old new
  pub count : length new.cells ≡ length old.cells
  pub total : flow ≡ outflow_of n rates i
  pub entries : (j : ℕ) → HasColumn old j → cell_of new i j ≡ exact_ends (scale * between_states rates i j)
  pub others : (p q : ℕ) → HasRow old p → HasColumn old q → p ≢ i → cell_of new p q ≡ cell_of old p q

shape_trans : (a b c : BandOfRows) → HasSameShape a b → HasSameShape b c → HasSameShape a c
shape_trans a b c s t = record {
  first = t.first ∙ s.first;
  rows = t.rows ∙ s.rows;
  left = t.left ∙ s.left;
  width = t.width ∙ s.width;
}

pub filled_more : (n : ℕ) (rates : RateTable) (scale : ℕ) (packed : Bool) (levels : List ℕ) (i : ℕ) (old new : List BandOfRows) (outflows : List ℕ)
    (k : ℕ) (a c : BandOfRows) (flow : ℕ) (more : List ℕ)
    → IsBanded (layout n packed levels old) → AreFilledTo n rates scale packed levels i old new outflows
    → i < n → k ≡ get_or levels i k → a ≡ get_or new k a → IsRowOf n rates scale i a c flow
    → more ≡ outflows ++ flow ∷ []
    → AreFilledTo n rates scale packed levels (i + 1) old (set new k c) more
filled_more n rates scale packed levels i old new outflows k a c flow more b f l k_is a_is r more_is =
    subst (AreFilledTo n rates scale packed levels (i + 1) old (set new k c)) (sym more_is) record {
      count = length-set new k c ∙ f.count;
      shape = λ x. band_changed (HasSameShape (band_at before x)) now k x c within
          (λ e. shape_trans (band_at before x) a c (subst (HasSameShape (band_at before x)) (ap (band_at now) e ∙ sym same_band) (f.shape x)) r.shape)
          (λ _. f.shape x);
      cells = λ x h. band_changed (λ y. length y.cells ≡ length (band_at before x).cells) now k x c within
          (λ e. r.count ∙ ap (λ y. length y.cells) (same_band ∙ ap (band_at now) (sym e)) ∙ f.cells x h)
          (λ _. f.cells x h);
      flow_count = length_push outflows flow ∙ ap (λ x. x + 1) f.flow_count;
      flow = λ p h. elim (cases_eq p i) [
        | inl e ↦ get_or_push outflows flow 0 p (f.flow_count ∙ sym e) ∙ r.total ∙ ap (outflow_of n rates) (sym e)
        | inr ne ↦ let less : p < length outflows = omega (arith, f.flow_count, ne) in
            get_or_append_left outflows (flow ∷ []) 0 p less ∙ f.flow p (omega (arith, ne))
      ];
      done = λ p q h lq kq. band_changed (λ y. cell_of y p q ≡ exact_ends (scale * between_states rates p q)) now k (slice_index levels p) c within
          (λ e. elim (cases_eq p i) [
            | inl s ↦ subst (λ z. cell_of c z q ≡ exact_ends (scale * between_states rates z q)) (sym s)
                (r.entries q (column_here p q e kq))
            | inr ne ↦
                r.others p q (row_here p e (omega arith)) (column_here p q e kq) ne
                ∙ ap (λ y. cell_of y p q) (same_band ∙ ap (band_at now) (sym e))
                ∙ f.done p q (omega (arith, ne)) lq kq
          ])
          (λ ne. elim (cases_eq p i) [
            | inl s ↦ absurd (ne (ap (slice_index levels) s ∙ sym level))
            | inr np ↦ f.done p q (omega (arith, np)) lq kq
          ]);
    }
  where
    before : BandedRates
    before = layout n packed levels old

    now : BandedRates
    now = layout n packed levels new

    sound : IsBanded (layout n packed levels new)
    sound = filled_banded n rates scale packed levels i old new outflows b f

    level : k ≡ slice_index levels i
    level = level_read (layout n packed levels new) i k sound l k_is

    within : k < length new
    within = omega (arith, level, sound.level i l)

    same_band : a ≡ band_at (layout n packed levels new) k
    same_band = band_read (layout n packed levels new) i k a sound l k_is a_is ∙ ap (band_at (layout n packed levels new)) (sym level)

    row_here : (p : ℕ) → slice_index levels p ≡ k → p < n → HasRow a p
    row_here p e h = subst (λ y. HasRow y p) (ap (band_at (layout n packed levels new)) e ∙ sym same_band) (sound.row p h)

    column_here : (p q : ℕ) → slice_index levels p ≡ k → HasColumn (band_of (layout n packed levels old) p) q → HasColumn a q
    column_here p q e h =
        subst (λ y. HasColumn y q) (ap (band_at (layout n packed levels new)) e ∙ sym same_band)
        (shape_column _ _ q (f.shape (slice_index levels p)) h)

-- what a row asks before it is filled
pub filled_row : (n : ℕ) (rates : RateTable) (scale : ℕ) (packed : Bool) (levels : List ℕ) (i : ℕ) (old new : List BandOfRows) (outflows : List ℕ)
    (k : ℕ) (a : BandOfRows)
    → IsBanded (layout n packed levels old) → AreFilledTo n rates scale packed levels i old new outflows
    → i < n → k ≡ get_or levels i k → a ≡ get_or new k a
    → HasRow a i × (a.left + a.width ≤ n) × HasSameShape (band_of (layout n packed levels old) i) a
filled_row n rates scale packed levels i old new outflows k a b f l k_is a_is =
    let sound = filled_banded n rates scale packed levels i old new outflows b f in
    let same = band_read (layout n packed levels new) i k a sound l k_is a_is in (
      subst (λ y. HasRow y i) (sym same) (sound.row i l),
      subst (λ y. y.left + y.width ≤ n) (sym same) (sound.columns (slice_index levels i) (sound.level i l)),
      subst (HasSameShape (band_of (layout n packed levels old) i)) (sym same) (f.shape (slice_index levels i)),
    )

pub filled_zeros : (n : ℕ) (rates : RateTable) (i : ℕ) (a c : BandOfRows) → HasSameShape a c
    → ((j : ℕ) → j < n → has_column a j ≡ false → between_states rates i j ≡ 0)
    → (j : ℕ) → j < n → has_column c j ≡ false → between_states rates i j ≡ 0
filled_zeros n rates i a c s z j l h =
    z j l (ap (λ x. nat_le x j && nat_lt j (x + a.width)) (sym s.left) ∙ ap (λ x. nat_le c.left j && nat_lt j (c.left + x)) (sym s.width) ∙ h)

-- the facts of a chain
pub record AreRatesOf (n : ℕ) (rates : RateTable) (top : ℕ) : Type 0 where
  pub at_least : 2 ≤ n
  pub at_most : n ≤ 4096
  pub descends : Descends n rates
  pub some_top : 1 ≤ top
  pub most_top : top ≤ 2 ^ 36
  pub bounded : (i : ℕ) → i < n → outflow_of n rates i ≤ top

module _ (n : ℕ) (rates : RateTable) (top : ℕ) (packed : Bool) (levels outflows : List ℕ) (old new : List BandOfRows)
    (chain : AreRatesOf n rates top) (banded : IsBanded (layout n packed levels old))
    (zeros : (i j : ℕ) → i < n → j < n → has_column (band_of (layout n packed levels old) i) j ≡ false → between_states rates i j ≡ 0)
    (size i : ℕ) (same_size : size ≡ n) (at_end : i ≡ n)
    (rows : AreFilledTo n rates (2 ^ 62 / top) packed levels i old new outflows) where
  filled : AreFilledTo n rates (2 ^ 62 / top) packed levels n old new outflows
  filled = subst (λ k. AreFilledTo n rates (2 ^ 62 / top) packed levels k old new outflows) at_end rows

  abbrev made : BandedRates
  made = matrix_of_bands n (2 ^ 62 / top) packed outflows levels new

  entries_are : (i j : ℕ) → i < n → j < n → entry made i j ≡ exact_ends (2 ^ 62 / top * between_states rates i j)
  entries_are i j l k =
      let shape = filled.shape (slice_index levels i) in
      let nothing : 0 ≡ 2 ^ 62 / top * 0 = omega arith in
      entry_is made i j
      ∙ on_test (has_column (band_of made i) j)
      (λ t. band_entry_kept (band_of made i) i j (has_column_of (band_of made i) j t)
      ∙ filled.done i j l k (shape_column _ _ j (shape_back _ _ shape) (has_column_of (band_of made i) j t)))
      (λ f. band_entry_none (band_of made i) i j f
      ∙ ap exact_ends nothing
      ∙ ap (λ x. exact_ends (2 ^ 62 / top * x)) (sym (filled_zeros n rates i _ _ shape (λ q h. zeros i q l h) j k f)))
    where
      shape_back : (a b : BandOfRows) → HasSameShape a b → HasSameShape b a
      shape_back a b s = record { first = sym s.first; rows = sym s.rows; left = sym s.left; width = sym s.width }

  flow_small : (i : ℕ) → i < n → 2 ^ 62 / top * slice_index outflows i ≤ 2 ^ 62
  flow_small i l =
      let most : slice_index outflows i ≤ top = omega (arith, filled.flow i l, chain.bounded i l) in
      omega (arith, mul-le-mul_left (2 ^ 62 / top) most, scale_fits top chain.some_top)

  banded_after : IsBanded made
  banded_after =
      let b = filled_banded n rates (2 ^ 62 / top) packed levels n old new outflows banded filled in record {
        levels = b.levels;
        level = b.level;
        row = b.row;
        own = b.own;
        cells = b.cells;
        columns = b.columns;
        falls = b.falls;
        whole = b.whole;
      }

  lows_are : (i k : ℕ) → i < n → k ≤ n → sum_below k (λ j. (entry made i j).lo) ≡ 2 ^ 62 / top * sum_below k (between_states rates i)
  lows_are i k l h =
      sum-same k (λ j. (entry made i j).lo) (λ j. 2 ^ 62 / top * between_states rates i j)
      (λ j q. ap (λ e. e.lo) (entries_are i j l (omega arith)))
      ∙ sum-scaled k (2 ^ 62 / top) (between_states rates i)

  live_after : IsLive n (2 ^ 62 / top) (entry made)
  live_after = record {
    leaves = λ m pos l.
        let to = descends_between n rates chain.descends m pos l in
        let one : 1 ≤ sum_below m (between_states rates m) = omega (arith, to.2, place_le_sum m (between_states rates m) to.0 to.1) in
        omega (arith, lows_are m m l (omega arith), mul-le-mul_left (2 ^ 62 / top) one);
  }

  within_after : IsWithin n (cap made) (entry made)
  within_after = record {
    ordered = λ i j l k ne. subst (λ e. e.lo ≤ e.hi) (sym (entries_are i j l k)) (omega arith);
    capped = λ i j l k ne.
        let most : between_states rates i j ≤ slice_index outflows i = omega (arith, filled.flow i l, place_le_sum n (between_states rates i) j k) in
        subst (λ e. e.hi ≤ cap made i) (sym (entries_are i j l k)) (mul-le-mul_left (2 ^ 62 / top) most);
  }

  pub made_sound : IsSound (matrix_of_bands size (2 ^ 62 / top) packed outflows levels new)
  made_sound = subst (λ k. IsSound (matrix_of_bands k (2 ^ 62 / top) packed outflows levels new)) (sym same_size) record {
    at_least = chain.at_least;
    at_most = chain.at_most;
    alive = omega arith;
    some_alive = omega (arith, chain.at_least);
    scale = scale_wide top chain.some_top chain.most_top;
    outflows = filled.flow_count;
    caps = flow_small;
    banded = banded_after;
    within = within_after;
    live = live_after;
  }

  pub made_matrix : IsMatrixOf n rates top (matrix_of_bands size (2 ^ 62 / top) packed outflows levels new)
  made_matrix = subst (λ k. IsMatrixOf n rates top (matrix_of_bands k (2 ^ 62 / top) packed outflows levels new)) (sym same_size) record {
    size = refl;
    alive = refl;
    scale = refl;
    outflows = filled.flow;
    entries = entries_are;
  }

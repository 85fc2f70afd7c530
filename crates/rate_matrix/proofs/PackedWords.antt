-- The words of a plan in bands by levels: which places are kept, and that the rates elsewhere are 0.
use Rattle.std.proofs.Common.{◌≡◌, ℕ, ◌+◌, ◌<◌, ◌↔◌, Bool, true, false, cond, eqb, List, length, slice_index, refl, sym, subst, ◌∙◌, inl, inr, true≢false, arith}
use Rattle.std.specs.Prelude.{Result, Ok, Err, IfOk}
use Rattle.std.proofs.lemmas.Bool.{cases_lt}
use Rattle.hyper_model.specs.declared.parts.PlanParts.{PlanParts}
use Rattle.hyper_model.specs.Plans.{units}
use Rattle.hyper_model.specs.Words.{words}
use Rattle.hyper_model.specs.Tables.{RateTable, between_states}
use Rattle.busy_words.specs.Order.{IsInOrder, WordOrder, word_at}
use Rattle.busy_words.proofs.Levels.{level_le}
use Rattle.busy_words.proofs.Ordering.{levels_rise}
use Rattle.rate_matrix.specs.Bands.{BandOfRows, BandedRates, HasColumn, HasSameShape, IsBanded, IsKept, IsMatrixOf, band_of, has_column, layout}
use Rattle.rate_matrix.specs.LevelBands.{AreBandsOf}
use Rattle.rate_matrix.specs.WordChains.{AreNeighbours, rank_level, word_rates}
use Rattle.rate_matrix.proofs.BandLemmas.{has_column_true, shape_column}
use Rattle.rate_matrix.proofs.LevelRanks.{Rises, level_band_is, level_kept, levels_banded}
use Rattle.rate_matrix.proofs.WordChains.{far_words}

-- the bands, by the levels and the number of units that were read
pub bands_read : (p : PlanParts) (levels read : List ℕ) (n : ℕ) (bands : List BandOfRows) → read ≡ levels → n ≡ units p
    → AreBandsOf read (n + 1) bands → AreBandsOf levels (units p + 1) bands
bands_read p levels read n bands same_levels same_units are =
    subst (λ l. AreBandsOf l (units p + 1) bands) same_levels (subst (λ k. AreBandsOf read (k + 1) bands) same_units are)

module _ (p : PlanParts) (order : WordOrder) (h : IsInOrder (units p) order.words) (levels : List ℕ)
    (count : length levels ≡ words p)
    (told : (i : ℕ) → i < words p → slice_index levels i ≡ rank_level p order i)
    (bands : List BandOfRows) (are : AreBandsOf levels (units p + 1) bands) where
  rises : Rises levels
  rises i j l k =
      let second : j < words p = omega (arith, count) in
      omega (arith, told i (omega (arith, count)), told j second, levels_rise (units p) order.words h i j l second)

  each : (i : ℕ) → i < length levels → slice_index levels i < units p + 1
  each i l = omega (arith, told i (omega (arith, count)), level_le (units p) (word_at order i))

  pub words_banded : IsBanded (layout (words p) true levels bands)
  words_banded = levels_banded levels rises (units p + 1) bands are each (words p) count

  pub words_kept : (i j : ℕ) → i < words p → j < words p
      → HasColumn (band_of (layout (words p) true levels bands) i) j ↔ AreNeighbours p order i j
  words_kept i j l k =
      let band = level_band_is levels rises (units p + 1) bands are each i (omega (arith, count)) in
      let kept = level_kept levels rises (slice_index levels i) j (omega (arith, count)) in
      let first = told i l in
      let second = told j k in (
        λ c. let n = kept.0 (subst (λ b. HasColumn b j) band c) in (omega (arith, n.0, first, second), omega (arith, n.1, first, second)),
        λ n. subst (λ b. HasColumn b j) (sym band) (kept.1 (omega (arith, n.0, first, second), omega (arith, n.1, first, second))),
      )

  pub words_zeros : (i j : ℕ) → i < words p → j < words p
      → has_column (band_of (layout (words p) true levels bands) i) j ≡ false → between_states (word_rates p order) i j ≡ 0
  words_zeros i j l k f = none (eqb i j) (elim (cases_lt (rank_level p order i + 1) (rank_level p order j)) [
    | inl far ↦ far_words p (word_at order i) (word_at order j) (inl far)
    | inr near ↦ elim (cases_lt (rank_level p order j + 1) (rank_level p order i)) [
      | inl far ↦ far_words p (word_at order i) (word_at order j) (inr far)
      | inr close ↦ absurd (true≢false (sym (has_column_true _ j ((words_kept i j l k).1 (close, near))) ∙ f))
    ]
  ])
    where
      none : (b : Bool) → word_rates p order i j ≡ 0 → cond b 0 (word_rates p order i j) ≡ 0
      none true e = refl
      none false e = e

-- the places that a matrix of this shape keeps
pub kept_as : {E : Type 0} (r : Result BandedRates E) (n : ℕ) (rates : RateTable) (top : ℕ) (laid : BandedRates) (N : ℕ → ℕ → Type 0)
    → IfOk r (IsMatrixOf n rates top) → IfOk r (λ m. (i : ℕ) → HasSameShape (band_of laid i) (band_of m i))
    → ((i j : ℕ) → i < n → j < n → HasColumn (band_of laid i) j ↔ N i j)
    → IfOk r (λ m. (i j : ℕ) → i < m.size → j < m.size → IsKept m i j ↔ N i j)
kept_as (Ok m) n rates top laid N is shape kept = λ i j l k.
    let first : i < n = omega (arith, is.size) in
    let second : j < n = omega (arith, is.size) in
    let same = shape i in
    let here = kept i j first second in (
      λ c. here.0 (shape_column _ _ j (record { first = sym same.first; rows = sym same.rows; left = sym same.left; width = sym same.width }) c),
      λ a. shape_column _ _ j same (here.1 a),
    )
kept_as (Err e) n rates top laid N is shape kept = is

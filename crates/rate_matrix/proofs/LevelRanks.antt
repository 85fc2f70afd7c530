-- Levels that only rise: the states of a lower level than k are the first ones.
use Rattle.std.proofs.Common.{◌≡◌, ℕ, zero, suc, ◌+◌, ◌-◌, ◌*◌, ◌<◌, ◌≤◌, ◌↔◌, true, false, cond, ltb, List, [], ◌∷◌, length, slice_index, replicate, refl, sym, ap, subst, ◌∙◌, inl, inr, true≢false, arith, rules}
use Rattle.std.proofs.lemmas.Bool.{cases_lt}
use Rattle.std.proofs.lemmas.Bool.Decides.{nat_tests}
use Rattle.std.proofs.lemmas.List.{places}
use Rattle.std.proofs.lemmas.List.Sums.{count_by-le-length, sum_by-cons}
use Rattle.fixed_interval.specs.Ends.{exact_ends}
use Rattle.rate_matrix.specs.Bands.{BandOfRows, HasRow, HasColumn, IsBanded, band_of, layout}
use Rattle.rate_matrix.specs.LevelBands.{AreBandsOf, below_level, level_band}

abbrev pub Rises : List ℕ → Type 0
Rises levels = (i j : ℕ) → i ≤ j → j < length levels → slice_index levels i ≤ slice_index levels j

rises_rest : (x : ℕ) (xs : List ℕ) → Rises (x ∷ xs) → Rises xs
rises_rest x xs r i j l h = r (suc i) (suc j) (omega arith) (omega arith)

lower_yes : (x k : ℕ) → x < k → ltb x k ≡ true
lower_yes x k l = grind (arith, nat_tests)

lower_no : (x k : ℕ) → k ≤ x → ltb x k ≡ false
lower_no x k l = grind (arith, nat_tests)

below_yes : (x k : ℕ) (xs : List ℕ) → x < k → below_level (x ∷ xs) k ≡ suc (below_level xs k)
below_yes x k xs l =
    let one = ap {B = ℕ} (λ b. cond b 1 0) (lower_yes x k l) in
    sum_by-cons (λ z. cond (ltb z k) 1 0) x xs ∙ omega (arith, one)

below_no : (x k : ℕ) (xs : List ℕ) → k ≤ x → below_level (x ∷ xs) k ≡ below_level xs k
below_no x k xs l =
    let none = ap {B = ℕ} (λ b. cond b 1 0) (lower_no x k l) in
    sum_by-cons (λ z. cond (ltb z k) 1 0) x xs ∙ omega (arith, none)

-- a band of zeros with the ranks that the level tells
pub level_band_made : (levels : List ℕ) (k first left rows width : ℕ) → first ≡ below_level levels k
    → left ≡ below_level levels (k - 1) → rows ≡ below_level levels (k + 1) - first → width ≡ below_level levels (k + 2) - left
    → (let b : BandOfRows = record { first = first; rows = rows; left = left; width = width; cells = replicate (rows * width) (exact_ends 0) } in b) ≡ level_band levels k
unfolding level_band
level_band_made levels k first left rows width e f h w = rw (h, w, e, f) refl

none_below : (x k : ℕ) (xs : List ℕ) → Rises (x ∷ xs) → k ≤ x → below_level xs k ≡ 0
none_below x k [] r l = refl
none_below x k (y ∷ ys) r l =
    let next : x ≤ y = r zero (suc zero) (omega arith) (omega arith) in
    below_no y k ys (omega arith) ∙ none_below y k ys (rises_rest x (y ∷ ys) r) (omega arith)

pub low_rank : (levels : List ℕ) → Rises levels → (k i : ℕ) → i < length levels → slice_index levels i < k → i < below_level levels k
low_rank [] r k i h l = absurd (omega arith)
low_rank (x ∷ xs) r k zero h l = omega (arith, below_yes x k xs l)
low_rank (x ∷ xs) r k (suc i) h l =
    let first : x ≤ slice_index xs i = r zero (suc i) (omega arith) h in
    omega (arith, below_yes x k xs (omega arith), low_rank xs (rises_rest x xs r) k i (omega arith) l)

pub high_rank : (levels : List ℕ) → Rises levels → (k i : ℕ) → i < length levels → k ≤ slice_index levels i → below_level levels k ≤ i
high_rank [] r k i h l = absurd (omega arith)
high_rank (x ∷ xs) r k zero h l = omega (arith, below_no x k xs l, none_below x k xs r l)
high_rank (x ∷ xs) r k (suc i) h l = elim (cases_lt x k) [
  | inl low ↦ omega (arith, below_yes x k xs low, high_rank xs (rises_rest x xs r) k i (omega arith) l)
  | inr high ↦ omega (arith, below_no x k xs high, none_below x k xs r high)
]

pub below_few : (levels : List ℕ) (k : ℕ) → below_level levels k ≤ length levels
below_few levels k = count_by-le-length (λ l. ltb l k) levels

pub below_more : (levels : List ℕ) → Rises levels → (k m : ℕ) → k ≤ m → below_level levels k ≤ below_level levels m
below_more levels r k m l = elim (cases_lt (below_level levels m) (below_level levels k)) [
  | inr ge ↦ ge
  | inl less ↦
      let few = below_few levels k in
      let i : below_level levels m < length levels = omega arith in
      elim (cases_lt (slice_index levels (below_level levels m)) k) [
        | inl low ↦ let p = low_rank levels r m (below_level levels m) i (omega arith) in absurd (omega arith)
        | inr high ↦ let p = high_rank levels r k (below_level levels m) i high in absurd (omega arith)
      ]
]

module _ (levels : List ℕ) (rises : Rises levels) where
  pub level_row : (i : ℕ) → i < length levels → HasRow (level_band levels (slice_index levels i)) i
  unfolding level_band
  level_row i l = record {
    from = high_rank levels rises (slice_index levels i) i l (omega arith);
    to = omega (arith, low_rank levels rises (slice_index levels i + 1) i l (omega arith));
  }

  pub level_own : (k i : ℕ) → HasRow (level_band levels k) i → (i < length levels) × (slice_index levels i ≡ k)
  unfolding level_band
  level_own k i h =
      let few = below_few levels (k + 1) in
      let from = h.from in
      let to = h.to in
      let inside : i < length levels = omega arith in (
        inside,
        elim (cases_lt (slice_index levels i) k) [
          | inl low ↦ let p = low_rank levels rises k i inside low in absurd (omega arith)
          | inr high ↦ elim (cases_lt (slice_index levels i) (k + 1)) [
            | inl low ↦ omega arith
            | inr above ↦ let p = high_rank levels rises (k + 1) i inside above in absurd (omega arith)
          ]
        ],
      )

  pub level_columns : (k : ℕ) → (level_band levels k).left + (level_band levels k).width ≤ length levels
  unfolding level_band
  level_columns k = omega (arith, below_few levels (k - 1), below_few levels (k + 2))

  pub level_cells : (k : ℕ) → length (level_band levels k).cells ≡ (level_band levels k).rows * (level_band levels k).width
  unfolding level_band
  level_cells k = search (rules, places)

  pub level_falls : (k m : ℕ) → k ≤ m → (level_band levels k).left ≤ (level_band levels m).left
  unfolding level_band
  level_falls k m l = below_more levels rises (k - 1) (m - 1) (omega arith)

  -- a column is kept if its level is beside that of the band
  pub level_kept : (k j : ℕ) → j < length levels
      → HasColumn (level_band levels k) j ↔ ((k ≤ slice_index levels j + 1) × (slice_index levels j ≤ k + 1))
  unfolding level_band
  level_kept k j l = (
    λ h. let from = h.from in let to = h.to in (
      elim (cases_lt (slice_index levels j) (k - 1)) [
        | inl low ↦ let p = low_rank levels rises (k - 1) j l low in absurd (omega arith)
        | inr high ↦ omega arith
      ],
      elim (cases_lt (slice_index levels j) (k + 2)) [
        | inl low ↦ omega arith
        | inr high ↦ let p = high_rank levels rises (k + 2) j l high in absurd (omega arith)
      ],
    ),
    λ h. let low = h.0 in let high = h.1 in record {
      from = high_rank levels rises (k - 1) j l (omega arith);
      to = omega (arith, low_rank levels rises (k + 2) j l (omega arith));
    },
  )

  module _ (count : ℕ) (bands : List BandOfRows) (are : AreBandsOf levels count bands)
      (each : (i : ℕ) → i < length levels → slice_index levels i < count) where
    pub level_band_is : (i : ℕ) → i < length levels
        → band_of (layout (length levels) true levels bands) i ≡ level_band levels (slice_index levels i)
    level_band_is i l = are.band (slice_index levels i) (each i l)

    pub levels_banded : (n : ℕ) → length levels ≡ n → IsBanded (layout n true levels bands)
    levels_banded n same = subst (λ k. IsBanded (layout k true levels bands)) same record {
      levels = refl;
      level = λ i l. omega (arith, each i l, are.one_each);
      row = λ i l. subst (λ b. HasRow b i) (sym (level_band_is i l)) (level_row i l);
      own = λ k i h r. level_own k i (subst (λ b. HasRow b i) (are.band k (omega (arith, are.one_each, h))) r);
      cells = λ k h. subst (λ b. length b.cells ≡ b.rows * b.width) (sym (are.band k (omega (arith, are.one_each, h)))) (level_cells k);
      columns = λ k h. subst (λ b. b.left + b.width ≤ length levels) (sym (are.band k (omega (arith, are.one_each, h)))) (level_columns k);
      falls = λ i j l h. subst (λ b. b.left ≤ (band_of (layout (length levels) true levels bands) j).left) (sym (level_band_is i (omega arith)))
          (subst (λ b. (level_band levels (slice_index levels i)).left ≤ b.left) (sym (level_band_is j h))
          (level_falls (slice_index levels i) (slice_index levels j) (rises i j l h)));
      whole = λ e. absurd (true≢false e);
    }

-- A table of rates without its last state (Grassmann, Taksar and Heyman 1985): its solutions are those of the
-- whole table, cut off or continued.
use Rattle.std.proofs.Common.{◌≡◌, ◌≢◌, ℕ, suc, ◌+◌, ◌*◌, ◌<◌, ◌↔◌, cond, eqb, ltb, sym, ap, subst, ◌∙◌, inl, inr, arith}
use Rattle.std.proofs.lemmas.Bool.{cases_lt}
use Rattle.std.proofs.lemmas.Bool.Decides.{nat_tests}
use Rattle.std.proofs.Math.Nat.{mul-pos}
use Rattle.hyper_model.specs.Sums.{sum_below}
use Rattle.hyper_model.specs.Tables.{RateTable, IsBalancedState, SolvesTable, Descends, between_states}
use Rattle.hyper_model.proofs.Sums.{sum-scaled, sum-add, sum-same, sum_none, place_le_sum, sum_changed}

-- the first m states of m + 1, where a way through the last one counts as a way between the others; all
-- rates are multiplied by the last state's rate to the others, so that they stay whole
abbrev pub without_last : ℕ → RateTable → RateTable
without_last m e i j = sum_below m (e m) * e i j + e i m * e m j

pub row_of_smaller : (m : ℕ) (e : RateTable) (j n : ℕ)
    → sum_below n (without_last m e j) ≡ sum_below m (e m) * sum_below n (e j) + e j m * sum_below n (e m)
row_of_smaller m e j n =
    sum-add n (λ i. sum_below m (e m) * e j i) (λ i. e j m * e m i)
    ∙ omega (arith, sum-scaled n (sum_below m (e m)) (e j), sum-scaled n (e j m) (e m))

pub column_of_smaller : (m : ℕ) (e : RateTable) (x : ℕ → ℕ) (j n : ℕ)
    → sum_below n (λ i. x i * without_last m e i j)
    ≡ sum_below m (e m) * sum_below n (λ i. x i * e i j) + e m j * sum_below n (λ i. x i * e i m)
column_of_smaller m e x j n =
    sum-same n (λ i. x i * without_last m e i j) (λ i. sum_below m (e m) * (x i * e i j) + e m j * (x i * e i m))
    (λ i h. omega arith)
    ∙ sum-add n (λ i. sum_below m (e m) * (x i * e i j)) (λ i. e m j * (x i * e i m))
    ∙ omega (arith, sum-scaled n (sum_below m (e m)) (λ i. x i * e i j), sum-scaled n (e m j) (λ i. x i * e i m))

-- the balance of the last state, without its rate to itself
pub last_place : (m : ℕ) (e : RateTable) (x : ℕ → ℕ) → SolvesTable (suc m) e x
    → x m * sum_below m (e m) ≡ sum_below m (λ i. x i * e i m)
last_place m e x s = omega (arith, s.balanced m (omega arith))

-- the last state cannot have all the mass by itself
pub rest_positive : (m : ℕ) (e : RateTable) (x : ℕ → ℕ) → 0 < sum_below m (e m) → SolvesTable (suc m) e x
    → 0 < sum_below m x
rest_positive m e x f s = elim (cases_lt 0 (sum_below m x)) [
  | inl l ↦ l
  | inr g ↦
      let none : sum_below m (λ i. x i * e i m) ≡ 0 =
      sum_none m (λ i. x i * e i m) (λ i l.
      let z : x i ≡ 0 = omega (arith, place_le_sum m x i l) in ap (λ a. a * e i m) z ∙ omega arith)
      in
      let last : 0 < x m = omega (arith, s.positive) in
      absurd (omega (arith, mul-pos last f, last_place m e x s, none))
]

pub restricted : (m : ℕ) (e : RateTable) (x : ℕ → ℕ) → 0 < sum_below m (e m) → SolvesTable (suc m) e x
    → SolvesTable m (without_last m e) x
restricted m e x f s = record {
  positive = rest_positive m e x f s;
  balanced = λ j l.
      let here = s.balanced j (omega arith) in
      let last = last_place m e x s in
      omega (
        arith,
        column_of_smaller m e x j m,
        ap (λ a. x j * a) (row_of_smaller m e j m),
        ap (λ a. sum_below m (e m) * a) here,
        ap (λ a. e m j * a) last,
      );
}

-- a solution of the first m states, continued to the last one
abbrev pub extended : ℕ → RateTable → (ℕ → ℕ) → ℕ → ℕ
extended m e y i = cond (ltb i m) (sum_below m (e m) * y i) (sum_below m (λ k. y k * e k m))

below : (i m a b : ℕ) → i < m → cond (ltb i m) a b ≡ a
below i m a b l = grind (arith, nat_tests)

at_end : (m a b : ℕ) → cond (ltb m m) a b ≡ b
at_end m a b = grind (arith, nat_tests)

extended_sum : (m : ℕ) (e : RateTable) (y g : ℕ → ℕ)
    → sum_below m (λ i. extended m e y i * g i) ≡ sum_below m (e m) * sum_below m (λ i. y i * g i)
extended_sum m e y g =
    sum-same m (λ i. extended m e y i * g i) (λ i. sum_below m (e m) * (y i * g i))
    (λ i l. ap (λ a. a * g i) (below i m (sum_below m (e m) * y i) (sum_below m (λ k. y k * e k m)) l) ∙ omega arith)
    ∙ sum-scaled m (sum_below m (e m)) (λ i. y i * g i)

extended_total : (m : ℕ) (e : RateTable) (y : ℕ → ℕ) → sum_below m (extended m e y) ≡ sum_below m (e m) * sum_below m y
extended_total m e y =
    sum-same m (extended m e y) (λ i. sum_below m (e m) * y i)
    (λ i l. below i m (sum_below m (e m) * y i) (sum_below m (λ k. y k * e k m)) l)
    ∙ sum-scaled m (sum_below m (e m)) y

pub extended_solves : (m : ℕ) (e : RateTable) (y : ℕ → ℕ) → 0 < sum_below m (e m)
    → SolvesTable m (without_last m e) y → SolvesTable (suc m) e (extended m e y)
extended_solves m e y f s = record {
  positive = omega (arith, extended_total m e y, mul-pos f s.positive);
  balanced = λ j l.
      let last = at_end m (sum_below m (e m) * y m) (sum_below m (λ k. y k * e k m)) in
      elim (cases_lt j m) [
        | inl k ↦
            let here = s.balanced j k in
            let value = below j m (sum_below m (e m) * y j) (sum_below m (λ i. y i * e i m)) k in
            omega (
              arith,
              here,
              ap (λ a. y j * a) (row_of_smaller m e j m),
              column_of_smaller m e y j m,
              extended_sum m e y (λ i. e i j),
              ap (λ a. a * (sum_below m (e j) + e j m)) value,
              ap (λ a. a * e m j) last,
            )
        | inr g ↦
            let same : j ≡ m = omega arith in
            ends m e y last j same
      ];
}
  where
    ends : (m : ℕ) (e : RateTable) (y : ℕ → ℕ) → extended m e y m ≡ sum_below m (λ k. y k * e k m)
        → (j : ℕ) → j ≡ m → IsBalancedState (suc m) e (extended m e y) j
    ends m e y last j same = subst (λ a. IsBalancedState (suc m) e (extended m e y) a) (sym same)
        (omega (arith, extended_sum m e y (λ i. e i m), ap (λ a. a * (sum_below m (e m) + e m m)) last, ap (λ a. a * e m m) last))

-- the last state falls, and the smaller table still descends
pub falls : (m : ℕ) (e : RateTable) → 0 < m → Descends (suc m) e → 0 < sum_below m (e m)
falls m e h d = let to = d m h (omega arith) in omega (arith, to.2, place_le_sum m (e m) to.0 to.1)

pub smaller_descends : (m : ℕ) (e : RateTable) → 0 < m → Descends (suc m) e → Descends m (without_last m e)
smaller_descends m e h d k p l =
    let to = d k p (omega arith) in
    (to.0, to.1, omega (arith, mul-pos (falls m e h d) to.2))

-- rates from a state to itself change no balance
module _ (n : ℕ) (e : RateTable) (x : ℕ → ℕ) (j : ℕ) (l : j < n) where
  itself : (a : ℕ) → cond (eqb j j) 0 a ≡ 0
  itself a = grind (arith, nat_tests)

  apart : (i : ℕ) (a : ℕ) → i ≢ j → a ≡ cond (eqb i j) 0 a
  apart i a ne = grind (arith, nat_tests)

  apart_back : (i : ℕ) (a : ℕ) → i ≢ j → a ≡ cond (eqb j i) 0 a
  apart_back i a ne = grind (arith, nat_tests)

  row_between : sum_below n (e j) ≡ sum_below n (between_states e j) + e j j
  row_between =
      omega (
        arith,
        itself (e j j),
        sum_changed n (e j) (between_states e j) j l (λ i k ne. apart_back i (e j i) ne),
      )

  column_between : sum_below n (λ i. x i * e i j) ≡ sum_below n (λ i. x i * between_states e i j) + x j * e j j
  column_between =
      omega (
        arith,
        ap (λ a. x j * a) (itself (e j j)),
        sum_changed n (λ i. x i * e i j) (λ i. x i * between_states e i j) j l
            (λ i k ne. ap (λ a. x i * a) (apart i (e i j) ne)),
      )

  pub balanced_between : IsBalancedState n e x j ↔ IsBalancedState n (between_states e) x j
  balanced_between = (
    λ h. omega (arith, h, ap (λ a. x j * a) row_between, column_between),
    λ h. omega (arith, h, ap (λ a. x j * a) row_between, column_between),
  )

pub solves_between : (n : ℕ) (e : RateTable) (x : ℕ → ℕ) → SolvesTable n e x ↔ SolvesTable n (between_states e) x
solves_between n e x = (
  λ s. record { positive = s.positive; balanced = λ j l. (balanced_between n e x j l).0 (s.balanced j l) },
  λ s. record { positive = s.positive; balanced = λ j l. (balanced_between n e x j l).1 (s.balanced j l) },
)

-- One elimination of a table of whole rates, and of the intervals that enclose it. The table loses its last state
-- and the scale of all its rates grows by one factor, so that no fraction arises. A row's sum over the scale stays
-- as it is, which is why no cap cuts a rate off.
use Rattle.std.proofs.Common.{◌≡◌, ◌≢◌, ℕ, suc, ◌+◌, ◌-◌, ◌*◌, ◌^◌, ◌<◌, ◌≤◌, cond, eqb, not, refl, arith}
use Rattle.std.proofs.Math.Nat.{le_of_mul-le-mul_right, mul-le-mul_left, mul-le-mul_right, mul-pos}
use Rattle.fixed_interval.specs.Ends.{Ends, Encloses, times_part_ends}
use Rattle.fixed_interval.proofs.Rounding.{encloses_plus_capped, encloses_share, encloses_times, encloses_times_part}
use Rattle.hyper_model.specs.Sums.{sum_below}
use Rattle.hyper_model.specs.Tables.{RateTable, SolvesTable}
use Rattle.hyper_model.proofs.Sums.{place_le_sum, sum-at, sum-le, sum-scaled, sum_split}
use Rattle.hyper_model.proofs.Tables.{last_place, row_of_smaller, without_last}
use Rattle.rate_matrix.specs.Elimination.{Entries, HoldsAt, entries_after, part_to, raised_entry, without_ends}
use Rattle.busy_words.specs.Algebra.{total_ends, where_ends}
use Rattle.busy_words.proofs.Algebra.{encloses_total, encloses_where}
use Rattle.rate_matrix.proofs.Raising.{entries_after-before}

-- the entries of the first n states enclose the rates of a table, over one scale, and no row is past its cap
pub record LiesIn (n scale : ℕ) (rates : RateTable) (caps : ℕ → ℕ) (entries : Entries) : Type 0 where
  pub scaled : 0 < scale
  pub inside : (i j : ℕ) → i < n → j < n → i ≢ j → Encloses (entries i j) (rates i j) scale
  pub rows : (i : ℕ) → i < n → sum_below n (rates i) ≤ caps i * scale

-- all rates of a row but one
pub encloses_rest : (n s : ℕ) (row : ℕ → Ends) (e : ℕ → ℕ) (j : ℕ) → j < n
    → ((k : ℕ) → k < n → Encloses (row k) (e k) s) → Encloses (without_ends n j row) (sum_below n e - e j) s
encloses_rest n s row e j here inside =
    let rest : sum_below n (λ k. cond (not (eqb k j)) (e k) 0) ≡ sum_below n e - e j =
    omega (arith, sum_split n (λ k. eqb k j) e, sum-at n e j here) in
    rw rest at (encloses_total n (λ k. where_ends (not (eqb k j)) (row k)) (λ k. cond (not (eqb k j)) (e k) 0) s
    (λ k l. encloses_where (not (eqb k j)) (row k) (e k) s (λ _. inside k l)))

-- the part of a rate in all that leaves state m for earlier states
pub encloses_part_to : (m s : ℕ) (e : RateTable) (a : Entries) (j : ℕ) → j < m
    → ((k : ℕ) → k < m → Encloses (a m k) (e m k) s) → Encloses (part_to a m j) (2 ^ 62 * e m j) (sum_below m (e m))
unfolding part_to
encloses_part_to m s e a j here inside =
    let whole : e m j + (sum_below m (e m) - e m j) ≡ sum_below m (e m) =
    omega (arith, place_le_sum m (e m) j here) in
    rw whole at (encloses_share (a m j) (without_ends m j (a m)) (part_to a m j) (2 ^ 62) refl
    (e m j) (sum_below m (e m) - e m j) s (inside j here) (encloses_rest m s (a m) (e m) j here inside))

-- the row of the smaller table, in its larger scale
pub smaller_rows : (m s : ℕ) (e : RateTable) (caps : ℕ → ℕ) (i : ℕ) → sum_below (suc m) (e i) ≤ caps i * s
    → sum_below m (without_last m e i) ≤ caps i * (s * sum_below m (e m))
smaller_rows m s e caps i row =
    omega (arith, row_of_smaller m e i m, mul-le-mul_right (sum_below m (e m)) row)

-- one entry that is raised
encloses_raised : (m s : ℕ) (e : RateTable) (caps : ℕ → ℕ) (a : Entries) → LiesIn (suc m) s e caps a
    → (i j : ℕ) → i < m → j < m → i ≢ j
    → Encloses (raised_entry (a i j) (a i m) (part_to a m j) (caps i)) (without_last m e i j) (s * sum_below m (e m))
encloses_raised m s e caps a lies i j row column apart =
    let into : Encloses (a i m) (e i m) s = lies.inside i m (omega arith) (omega arith) (omega arith) in
    let part : Encloses (part_to a m j) (2 ^ 62 * e m j) (sum_below m (e m)) =
    encloses_part_to m s e a j column (λ k l. lies.inside m k (omega arith) (omega arith) (omega arith)) in
    let old : Encloses (a i j) (sum_below m (e m) * e i j) (s * sum_below m (e m)) =
    encloses_times (a i j) (sum_below m (e m)) (e i j) s (sum_below m (e m) * e i j) (s * sum_below m (e m))
    refl (omega arith) (lies.inside i j (omega arith) (omega arith) apart) in
    encloses_plus_capped (a i j) (times_part_ends (a i m) (part_to a m j))
    (raised_entry (a i j) (a i m) (part_to a m j) (caps i)) (caps i) refl
    (sum_below m (e m) * e i j) (e i m * e m j) (s * sum_below m (e m)) old
    (encloses_times_part (a i m) (part_to a m j) (times_part_ends (a i m) (part_to a m j)) refl
    (e i m) s (e m j) (sum_below m (e m)) into part)
    (omega (
      arith,
      place_le_sum m (without_last m e i) j column,
      smaller_rows m s e caps i (lies.rows i (omega arith)),
    ))

-- what leaves the last state has a rate if the low ends of its entries are not all 0
pub leaves_some : (m s : ℕ) (e : RateTable) (caps : ℕ → ℕ) (a : Entries) → LiesIn (suc m) s e caps a
    → 0 < (total_ends m (a m)).lo → 0 < sum_below m (e m)
leaves_some m s e caps a lies live =
    let low = encloses_total m (a m) (e m) s (λ k l. lies.inside m k (omega arith) (omega arith) (omega arith)) in
    omega (arith, low.low, mul-pos live lies.scaled)

-- one elimination
pub entries_after-lies : (m s : ℕ) (e : RateTable) (caps : ℕ → ℕ) (a : Entries) → LiesIn (suc m) s e caps a
    → 0 < (total_ends m (a m)).lo
    → LiesIn m (s * sum_below m (e m)) (without_last m e) caps (entries_after a caps m)
entries_after-lies m s e caps a lies live = record {
  scaled = mul-pos lies.scaled (leaves_some m s e caps a lies live);
  inside = λ i j row column apart.
      rw (entries_after-before a caps m i j row column apart) (encloses_raised m s e caps a lies i j row column apart);
  rows = λ i row. smaller_rows m s e caps i (lies.rows i (omega arith));
}

flow_low : (n s : ℕ) (y : ℕ → ℕ) (a : ℕ → Ends) (e : ℕ → ℕ) → ((i : ℕ) → i < n → Encloses (a i) (e i) s)
    → sum_below n (λ i. y i * (a i).lo) * s ≤ sum_below n (λ i. y i * e i)
flow_low n s y a e inside =
    omega (
      arith,
      sum-scaled n s (λ i. y i * (a i).lo),
      sum-le n (λ i. s * (y i * (a i).lo)) (λ i. y i * e i) (λ i l. omega (arith, mul-le-mul_left (y i) (inside i l).low)),
    )

flow_high : (n s : ℕ) (y : ℕ → ℕ) (a : ℕ → Ends) (e : ℕ → ℕ) → ((i : ℕ) → i < n → Encloses (a i) (e i) s)
    → sum_below n (λ i. y i * e i) ≤ sum_below n (λ i. y i * (a i).hi) * s
flow_high n s y a e inside =
    omega (
      arith,
      sum-scaled n s (λ i. y i * (a i).hi),
      sum-le n (λ i. y i * e i) (λ i. s * (y i * (a i).hi)) (λ i l. omega (arith, mul-le-mul_left (y i) (inside i l).high)),
    )

-- the last state is in balance with the states before it
pub holds_last : (m s : ℕ) (e : RateTable) (caps : ℕ → ℕ) (a : Entries) (y : ℕ → ℕ) → LiesIn (suc m) s e caps a
    → SolvesTable (suc m) e y → HoldsAt a y m
holds_last m s e caps a y lies solves =
    let out = encloses_total m (a m) (e m) s (λ k l. lies.inside m k (omega arith) (omega arith) (omega arith)) in
    let column : (i : ℕ) → i < m → Encloses (a i m) (e i m) s =
    λ i l. lies.inside i m (omega arith) (omega arith) (omega arith) in
    let balance = last_place m e y solves in
    let least : y m * (total_ends m (a m)).lo * s ≤ sum_below m (λ i. y i * (a i m).hi) * s =
    omega (arith, balance, mul-le-mul_left (y m) out.low, flow_high m s y (λ i. a i m) (λ i. e i m) column) in
    let most : sum_below m (λ i. y i * (a i m).lo) * s ≤ y m * (total_ends m (a m)).hi * s =
    omega (arith, balance, mul-le-mul_left (y m) out.high, flow_low m s y (λ i. a i m) (λ i. e i m) column) in
    record {
      least = le_of_mul-le-mul_right least lies.scaled;
      most = le_of_mul-le-mul_right most lies.scaled;
    }

-- The weights of the states in which calls wait: how many there are, their range, that there is one list of them, and the
-- masses that they enclose.
use Rattle.std.proofs.Common.{◌≡◌, ℕ, zero, suc, ◌+◌, ◌-◌, ◌*◌, ◌<◌, ◌≤◌, List, [], ◌∷◌, ◌++◌, All, length, slice_index, refl, sym, ap, subst, ◌∙◌, inl, inr, arith, length-append}
use Rattle.std.proofs.Math.Nat.{eq-or-lt_of_le}
use Rattle.std.proofs.lemmas.List.{get_or_append_left}
use Rattle.std.proofs.Math.Seq.{get_or-append_seam}
use Rattle.fixed_interval.specs.Ends.{Ends, ratio_ends}
use Rattle.fixed_interval.specs.WeightList.{EnclosesAll, IsWeight, ends_at}
use Rattle.back_solve.proofs.NextWeight.{weight_at}
use Rattle.back_solve.proofs.WeightLists.{pushed-count, pushed-in_range, pushed-one}
use Rattle.queue_tail.specs.Tail.{GainsMultiple, IsMultipleOf}
use Rattle.queue_tail.proofs.Tail.{multiple_encloses, ratio-ordered}
use Rattle.finite_line.specs.FiniteWeights.{GainsQueue}

-- one weight for each number of waiting calls
pub queue_count : (calls service k : ℕ) (words items : List Ends) → GainsQueue calls service k words items
    → length items ≡ length words + k
queue_count calls service zero words items gains = omega (arith, ap (λ (l : List Ends). length l) gains)
queue_count calls service (suc k) words items gains =
    omega (
      arith,
      pushed-count gains.0 items (ratio_ends (ends_at gains.0 (length gains.0 - 1)) calls service) gains.2,
      queue_count calls service k words gains.0 gains.1,
    )

-- a loop pushes one more
pub queue_more : (calls service k n : ℕ) (words before items : List Ends) → n ≡ suc k → GainsQueue calls service k words before
    → GainsMultiple calls service before items → GainsQueue calls service n words items
queue_more calls service k n words before items next gains more =
    subst (λ m. GainsQueue calls service m words items) (sym next) (before, gains, more)

module _ (calls service : ℕ) (served : 0 < service) (words : List Ends) (some : 0 < length words) (weights : All IsWeight words) where
  pub queue_in_range : (k : ℕ) (items : List Ends) → GainsQueue calls service k words items → All IsWeight items
  queue_in_range zero items gains = subst (All IsWeight) (sym gains) weights
  queue_in_range (suc k) items gains =
      let last = ends_at gains.0 (length gains.0 - 1) in
      let before = queue_in_range k gains.0 gains.1 in
      let ordered = weight_at gains.0 (length gains.0 - 1)
      (omega (arith, queue_count calls service k words gains.0 gains.1)) before in
      pushed-in_range gains.0 items (ratio_ends last calls service) before (ratio-ordered last calls service served ordered.0) gains.2

  last_ordered : (k : ℕ) (before : List Ends) → GainsQueue calls service k words before
      → (ends_at before (length before - 1)).lo ≤ (ends_at before (length before - 1)).hi
  last_ordered k before gains =
      (weight_at before (length before - 1) (omega (arith, queue_count calls service k words before gains))
      (queue_in_range k before gains)).0

-- there is one list of them
pub one_queue : (calls service k : ℕ) (words items others : List Ends) → GainsQueue calls service k words items
    → GainsQueue calls service k words others → others ≡ items
one_queue calls service zero words items others gains again = again ∙ sym gains
one_queue calls service (suc k) words items others gains again =
    let before : again.0 ≡ gains.0 = one_queue calls service k words gains.0 again.0 gains.1 again.1 in
    let more : GainsMultiple calls service gains.0 others =
    subst (λ b. GainsMultiple calls service b others) before again.2 in
    pushed-one gains.0 others items (ratio_ends (ends_at gains.0 (length gains.0 - 1)) calls service) more gains.2

-- masses of the words, and after them those of the states in which 1 to k calls wait
abbrev pub with_queue : List ℕ → (ℕ → ℕ) → ℕ → List ℕ
with_queue masses q zero = masses
with_queue masses q (suc k) = with_queue masses q k ++ q (suc k) ∷ []

pub with_queue_length : (masses : List ℕ) (q : ℕ → ℕ) (k : ℕ) → length (with_queue masses q k) ≡ length masses + k
with_queue_length masses q zero = omega arith
with_queue_length masses q (suc k) =
    omega (arith, length-append (with_queue masses q k) (q (suc k) ∷ []), with_queue_length masses q k)

pub word_mass_at : (masses : List ℕ) (q : ℕ → ℕ) (k i : ℕ) → i < length masses
    → slice_index (with_queue masses q k) i ≡ slice_index masses i
word_mass_at masses q zero i inside = refl
word_mass_at masses q (suc k) i inside =
    get_or_append_left (with_queue masses q k) (q (suc k) ∷ []) 0 i (omega (arith, with_queue_length masses q k))
    ∙ word_mass_at masses q k i inside

last_mass : (masses : List ℕ) (q : ℕ → ℕ) (k i : ℕ) → i ≡ length masses + k
    → slice_index (with_queue masses q (suc k)) i ≡ q (suc k)
last_mass masses q k i is =
    let last : i ≡ length (with_queue masses q k) = omega (arith, with_queue_length masses q k) in
    ap (λ j. slice_index (with_queue masses q (suc k)) j) last
    ∙ get_or-append_seam (with_queue masses q k) (q (suc k)) [] 0

-- the mass of the state in which so many calls wait stands as many places after the words
pub queue_mass_at : (masses : List ℕ) (q : ℕ → ℕ) (k j i : ℕ) → j < k → i ≡ length masses + j
    → slice_index (with_queue masses q k) i ≡ q (suc j)
queue_mass_at masses q zero j i below is = absurd (omega arith)
queue_mass_at masses q (suc k) j i below is =
    elim (eq-or-lt_of_le (let le : j ≤ k = omega arith in le)) [
      | inl last ↦ last_mass masses q k i (omega arith) ∙ ap (λ m. q (suc m)) (sym last)
      | inr before ↦
          get_or_append_left (with_queue masses q k) (q (suc k) ∷ []) 0 i (omega (arith, with_queue_length masses q k))
          ∙ queue_mass_at masses q k j i before is
    ]

module _ (calls service : ℕ) (served : 0 < service) (words : List Ends) (some : 0 < length words) (weights : All IsWeight words)
    (masses : List ℕ) (q : ℕ → ℕ) (full : slice_index masses (length masses - 1) ≡ q 0) (e : EnclosesAll words masses) where
  last_of : (k : ℕ) → slice_index (with_queue masses q k) (length (with_queue masses q k) - 1) ≡ q k
  last_of zero = full
  last_of (suc k) =
      last_mass masses q k (length (with_queue masses q (suc k)) - 1) (omega (arith, with_queue_length masses q (suc k)))

  pub queue_encloses : (k : ℕ) (items : List Ends) → GainsQueue calls service k words items
      → ((j : ℕ) → j < k → service * q (suc j) ≡ calls * q j) → EnclosesAll items (with_queue masses q k)
  queue_encloses zero items gains balanced = subst (λ l. EnclosesAll l masses) (sym gains) e
  queue_encloses (suc k) items gains balanced =
      let before = queue_encloses k gains.0 gains.1 (λ j l. balanced j (omega arith)) in
      let is : IsMultipleOf calls service (with_queue masses q k) (q (suc k)) =
      balanced k (omega arith) ∙ ap (λ m. calls * m) (sym (last_of k)) in
      multiple_encloses calls service gains.0 items served
      (omega (arith, queue_count calls service k words gains.0 gains.1))
      (last_ordered calls service served words some weights k gains.0 gains.1) gains.2 (with_queue masses q k) (q (suc k)) is before

-- Sums over the places from one up to another.
use Rattle.std.proofs.Common.{◌≡◌, ℕ, zero, suc, ◌+◌, ◌<◌, ◌≤◌, cond, ap, arith}
use Rattle.std.proofs.lemmas.Bool.Decides.{nat_tests}
use Rattle.hyper_model.specs.Sums.{sum_below}
use Rattle.hyper_model.proofs.Sums.{sum-same, sum_none}
use Rattle.busy_words.specs.Parts.{is_from_to}

-- the first places, and those after them
pub sum_after : (m n : ℕ) (f : ℕ → ℕ) → sum_below (m + n) f ≡ sum_below m f + sum_below n (λ k. f (m + k))
sum_after m zero f = omega (arith, ap (λ k. sum_below k f) (let none : m + 0 ≡ m = omega arith in none))
sum_after m (suc n) f =
    let more : m + suc n ≡ suc (m + n) = omega arith in
    omega (arith, ap (λ k. sum_below k f) more, sum_after m n f)

inside : (first past i : ℕ) (f : ℕ → ℕ) → first ≤ i → i < past → cond (is_from_to first past i) (f i) 0 ≡ f i
inside first past i f low high = grind (arith, nat_tests)

before : (first past i : ℕ) (f : ℕ → ℕ) → i < first → cond (is_from_to first past i) (f i) 0 ≡ 0
before first past i f l = grind (arith, nat_tests)

after : (first past i : ℕ) (f : ℕ → ℕ) → past ≤ i → cond (is_from_to first past i) (f i) 0 ≡ 0
after first past i f l = grind (arith, nat_tests)

-- of the sum over all places, the addends of n places from the first on
pub sum_from_to : (first n rest : ℕ) (f : ℕ → ℕ)
    → sum_below (first + n + rest) (λ i. cond (is_from_to first (first + n) i) (f i) 0) ≡ sum_below n (λ k. f (first + k))
sum_from_to first n rest f =
    let g = λ (i : ℕ). cond (is_from_to first (first + n) i) (f i) 0 in
    omega (
      arith,
      sum_after (first + n) rest g,
      sum_after first n g,
      sum_none first g (λ i l. before first (first + n) i f l),
      sum-same n (λ k. g (first + k)) (λ k. f (first + k))
          (λ k l. inside first (first + n) (first + k) f (omega arith) (omega arith)),
      sum_none rest (λ k. g (first + n + k)) (λ k l. after first (first + n) (first + n + k) f (omega arith)),
    )

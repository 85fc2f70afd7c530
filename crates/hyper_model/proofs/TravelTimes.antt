-- Mean travel times: sums of thousandths times seconds.
use Rattle.std.proofs.Common.{◌≡◌, ℕ, zero, suc, ◌+◌, ◌*◌, ◌^◌, ◌<◌, ◌≤◌, ◌⊎◌, inl, inr, ap, arith, add-one, ◌∙◌}
use Rattle.std.proofs.Math.Nat.{mul-le-mul_left}
use Rattle.hyper_model.specs.declared.parts.PlanParts.{PlanParts}
use Rattle.hyper_model.specs.Grid.{Grid, cell}
use Rattle.hyper_model.specs.Sums.{sum_below}
use Rattle.hyper_model.proofs.Sums.{sum-le, sum-scaled}
use Rattle.hyper_model.specs.Plans.{atoms, located, travel, IsAcceptedUpTo}
use Rattle.hyper_model.specs.Measures.{mean_travel}

-- a weighed sum of terms that are at most m is at most m times the sum of the weights
pub weighed_le : (n : ℕ) (weight term : ℕ → ℕ) (m : ℕ) → ((k : ℕ) → k < n → term k ≤ m)
    → sum_below n (λ k. weight k * term k) ≤ sum_below n weight * m
weighed_le n weight term m h =
    omega (
      arith,
      sum-le n (λ k. weight k * term k) (λ k. m * weight k) (λ k l. omega (arith, mul-le-mul_left (weight k) (h k l))),
      sum-scaled n m weight,
    )

-- a sum over fewer places is at most the sum
pub sum_grows : (m n : ℕ) (f : ℕ → ℕ) → m ≤ n → sum_below m f ≤ sum_below n f
sum_grows m zero f h = let e : m ≡ 0 = omega arith in omega (arith, ap (λ k. sum_below k f) e)
sum_grows m (suc n) f h =
    let t : (m ≤ n) ⊎ (m ≡ suc n) = grind arith in
    elim t [
      | inl l ↦ omega (arith, sum_grows m n f l)
      | inr e ↦ omega (arith, ap (λ k. sum_below k f) e)
    ]

-- the total after the first k places: the sum itself, and how large it is if all cells are below 2 ^ 32
pub record IsTotal (located travel : Grid) (unit atom k total : ℕ) : Type 0 where
  pub exact : total ≡ sum_below k (λ i. cell located unit i * cell travel i atom)
  pub bound : total ≤ sum_below k (cell located unit) * 2 ^ 32

pub total_more : (located travel : Grid) (unit atom k total w t : ℕ) → IsTotal located travel unit atom k total
    → w ≡ cell located unit k → t ≡ cell travel k atom → t ≤ 2 ^ 32
    → IsTotal located travel unit atom (k + 1) (total + w * t)
total_more located travel unit atom k total w t h e g l = record {
  exact = rw add-one (omega (arith, h.exact, ap (λ a. a * t) e, ap (λ a. cell located unit k * a) g));
  bound = rw add-one (omega (arith, h.bound, mul-le-mul_left w l, e));
}

pub total_fits : (located travel : Grid) (unit atom k total w t : ℕ) → IsTotal located travel unit atom k total
    → w ≡ cell located unit k → t ≤ 2 ^ 32 → k < located.cols → sum_below located.cols (cell located unit) ≡ 1000
    → total + w * t < 2 ^ 64
total_fits located travel unit atom k total w t h e l inside whole =
    let grown : sum_below (suc k) (cell located unit) ≤ sum_below located.cols (cell located unit) =
    sum_grows (suc k) located.cols (cell located unit) (omega arith) in
    omega (arith, h.bound, mul-le-mul_left w l, e)

pub total_most : (located travel : Grid) (unit atom k total : ℕ) → IsTotal located travel unit atom k total
    → k ≡ located.cols → located.cols ≡ travel.rows → sum_below located.cols (cell located unit) ≡ 1000
    → (longest : ℕ) → ((i : ℕ) → i < travel.rows → cell travel i atom ≤ longest) → total ≤ 1000 * longest
total_most located travel unit atom k total h e g whole longest each =
    let all : sum_below k (cell located unit) ≡ 1000 = ap (λ n. sum_below n (cell located unit)) e ∙ whole in
    omega (
      arith,
      h.exact,
      ap (λ a. a * longest) all,
      weighed_le k (cell located unit) (λ i. cell travel i atom) longest (λ i l. each i (omega arith)),
    )

-- of a plan the mean is taken over its atoms
pub mean_travel-of_plan : {most : ℕ} (p : PlanParts) → IsAcceptedUpTo most p → (n j : ℕ)
    → mean_travel p n j ≡ sum_below (atoms p) (λ k. located p n k * travel p k j)
mean_travel-of_plan p a n j = ap (λ k. sum_below k (λ i. located p n i * travel p i j)) a.locations.cols

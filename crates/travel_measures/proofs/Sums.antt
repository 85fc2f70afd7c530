-- Sums of rates and times: the totals that loops keep, and how large they become.
use Rattle.std.proofs.Common.{◌≡◌, ℕ, zero, suc, ◌+◌, ◌*◌, ◌<◌, ◌≤◌, ap, inl, inr, arith}
use Rattle.std.proofs.lemmas.Bool.{cases_lt}
use Rattle.hyper_model.specs.declared.parts.PlanParts.{PlanParts}
use Rattle.hyper_model.specs.Sums.{sum_below}
use Rattle.hyper_model.specs.Plans.{units, atoms, calls_of, all_calls, travel, located, IsAccepted}
use Rattle.hyper_model.specs.Measures.{mean_travel, travel_from_calls}
use Rattle.hyper_model.proofs.TravelTimes.{mean_travel-of_plan, weighed_le, sum_grows}
use Rattle.travel_measures.specs.TravelEnds.{greatest_below, longest_to, longest_travel, longest_mean}

-- the calls of the first atoms and of the next are at most all calls, and so 1,000,000
pub calls_next : (p : PlanParts) → IsAccepted p → (j : ℕ) → j < atoms p
    → sum_below j (calls_of p) + calls_of p j ≤ 1000000
calls_next p a j l =
    let grown : sum_below (suc j) (calls_of p) ≤ all_calls p = sum_grows (suc j) (atoms p) (calls_of p) (omega arith) in
    omega (arith, grown, a.atoms.calls.high)

pub calls_so_far : (p : PlanParts) (j : ℕ) → j ≤ atoms p → sum_below j (calls_of p) ≤ all_calls p
calls_so_far p j l = sum_grows j (atoms p) (calls_of p) l

-- one more of a sum's terms is at most its rate times what each is at most
pub rates_more : (rate : ℕ → ℕ) (n next each total item sum : ℕ) → next ≡ suc n → total ≤ sum_below n rate * each
    → item ≤ rate n * each → sum ≡ total + item → sum ≤ sum_below next rate * each
rates_more rate n next each total item sum one_more room small is_sum =
    rw (one_more, is_sum) (omega (arith, room, small))

-- the greatest of numbers is at least each, and at most what each is at most
pub at_most_greatest : (n : ℕ) (f : ℕ → ℕ) (i : ℕ) → i < n → f i ≤ greatest_below n f
at_most_greatest zero f i l = absurd (omega arith)
at_most_greatest (suc n) f i l = elim (cases_lt i n) [
  | inl before ↦ omega (arith, at_most_greatest n f i before)
  | inr last ↦ let e : i ≡ n = omega arith in omega (arith, ap f e)
]

pub longest_reaches : (p : PlanParts) (k j : ℕ) → k < atoms p → j < atoms p → travel p k j ≤ longest_travel p
longest_reaches p k j l h =
    omega (
      arith,
      at_most_greatest (atoms p) (λ i. travel p i j) k l,
      at_most_greatest (atoms p) (longest_to p) j h,
    )

-- no mean travel time exceeds the longest
pub mean_fits : (p : PlanParts) → IsAccepted p → (n j : ℕ) → n < units p → j < atoms p → mean_travel p n j ≤ longest_mean p
mean_fits p a n j l h =
    omega (
      arith,
      mean_travel-of_plan p a n j,
      weighed_le (atoms p) (located p n) (λ k. travel p k j) (longest_travel p) (λ k inside. longest_reaches p k j inside h),
      ap (λ s. s * longest_travel p) (a.locations.whole n l),
    )

pub from_calls_fits : (p : PlanParts) (j : ℕ) → j < atoms p → 1000 * travel_from_calls p j ≤ longest_mean p * all_calls p
from_calls_fits p j h =
    omega (
      arith,
      weighed_le (atoms p) (calls_of p) (λ i. travel p i j) (longest_travel p) (λ k inside. longest_reaches p k j inside h),
    )

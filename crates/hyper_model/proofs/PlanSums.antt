-- Sums of rates and of thousandths over the first places, and what follows of the sums of an accepted plan.
use Rattle.std.proofs.Common.{◌≡◌, ℕ, ◌<◌, ◌≤◌, sym, ap, ◌∙◌, arith, Bool, true, false, cond, leb}
use Rattle.std.proofs.lemmas.Bool.Decides.{nat_tests}
use Rattle.hyper_model.specs.declared.parts.PlanParts.{PlanParts}
use Rattle.hyper_model.specs.Sums.{sum_below}
use Rattle.hyper_model.proofs.Sums.{place_le_sum}
use Rattle.hyper_model.specs.Plans.{units, atoms, service_of, all_service, located, all_below, are_single, groups_of, factorial, common_multiple, split, HasUnitsUpTo, IsAcceptedUpTo}

-- the first unit serves
pub service_positive : {most : ℕ} (p : PlanParts) → HasUnitsUpTo most p → 1 ≤ all_service p
service_positive p h =
    let first : 0 < units p = h.number.low in
    omega (arith, (h.rates 0 first).low, place_le_sum (units p) (service_of p) 0 first)

-- no place of a unit has more than all its thousandths
pub located_within : {most : ℕ} (p : PlanParts) → IsAcceptedUpTo most p → (n k : ℕ) → n < units p → k < atoms p → located p n k ≤ 1000
located_within p a n k h g = omega (arith, a.locations.whole n h, place_le_sum (atoms p) (located p n) k g)

-- a place that fails a test is enough
pub all_below_fails : (n : ℕ) (test : ℕ → Bool) (k : ℕ) → k < n → test k ≡ false → all_below n test ≡ false
all_below_fails n test k h e =
    let least : cond (test k) 0 1 ≤ sum_below n (λ i. cond (test i) 0 1) = place_le_sum n (λ i. cond (test i) 0 1) k h in
    let one : cond (test k) 0 1 ≡ 1 = ap {B = ℕ} (λ b. cond b 0 1) e in
    grind (arith, nat_tests, least, one)

-- an atom with a group of two units or more is enough
pub split_more : (p : PlanParts) (j : ℕ) → units p ≤ 12 → j < atoms p → are_single (groups_of p j) ≡ false → 27720 ≡ split p
split_more p j few h e =
    let more : split p ≡ common_multiple (units p) =
    ap {B = ℕ} (λ c. cond c 1 (common_multiple (units p)))
    (all_below_fails (atoms p) (λ i. are_single (groups_of p i)) j h e) in
    let up_to : leb (units p) 12 ≡ true = grind (arith, nat_tests, few) in
    let common : common_multiple (units p) ≡ 27720 = ap {B = ℕ} (λ c. cond c 27720 (factorial (units p))) up_to in
    sym (more ∙ common)

-- Sums of intervals enclose sums of numbers, all over one denominator.
use Rattle.std.proofs.Common.{◌≡◌, ℕ, zero, suc, ◌+◌, ◌*◌, ◌<◌, ◌≤◌, Bool, true, false, cond, refl, arith}
use Rattle.std.proofs.lemmas.Nat.{mul-le}
use Rattle.hyper_model.specs.Sums.{sum_below}
use Rattle.fixed_interval.specs.Ends.{Ends, Encloses, between}
use Rattle.busy_words.specs.Algebra.{total_ends, where_ends}

-- nothing encloses nothing
pub encloses_nothing : (den : ℕ) → Encloses (between 0 0) 0 den
encloses_nothing den = record { low = omega arith; high = omega arith }

pub encloses_where : (test : Bool) (a : Ends) (x den : ℕ) → (test ≡ true → Encloses a x den)
    → Encloses (where_ends test a) (cond test x 0) den
encloses_where true a x den h = let e = h refl in record { low = e.low; high = e.high }
encloses_where false a x den h = encloses_nothing den

pub encloses_total : (n : ℕ) (a : ℕ → Ends) (x : ℕ → ℕ) (den : ℕ) → ((i : ℕ) → i < n → Encloses (a i) (x i) den)
    → Encloses (total_ends n a) (sum_below n x) den
encloses_total zero a x den h = encloses_nothing den
encloses_total (suc n) a x den h =
    let before = encloses_total n a x den (λ i l. h i (omega arith)) in
    let last = h n (omega arith) in
    record { low = omega (arith, before.low, last.low); high = omega (arith, before.high, last.high) }

-- one more interval in a sum, one more test, and how large a sum becomes: for loops that add
pub total_more : (a : ℕ → Ends) (n next : ℕ) (total item sum : Ends) → next ≡ suc n → total ≡ total_ends n a
    → item ≡ a n → sum ≡ between (total.lo + item.lo) (total.hi + item.hi) → sum ≡ total_ends next a
total_more a n next total item sum one_more is_total is_item is_sum = rw (one_more, is_sum, is_total, is_item) refl

-- and so many times one more interval
pub room_more : (n next times most high sum item each : ℕ) → next ≡ suc n → sum ≡ high + times * item
    → high ≤ n * (most * each) → times ≤ most → item ≤ each → sum ≤ next * (most * each)
room_more n next times most high sum item each one_more is_sum room few small =
    rw (one_more, is_sum) (omega (arith, room, mul-le times item most each few small))

-- Sums of intervals, end by end, beside the operations of fixed_interval.
use Rattle.std.specs.Prelude.{ℕ, Bool, if◌then◌else◌}
use Rattle.fixed_interval.specs.Ends.{Ends, between}
use Rattle.hyper_model.specs.Sums.{sum_below}

-- the interval if the test holds, else 0
abbrev pub where_ends : Bool → Ends → Ends
where_ends test a = between (if test then a.lo else 0) (if test then a.hi else 0)

-- the sum of the first n intervals
abbrev pub total_ends : ℕ → (ℕ → Ends) → Ends
total_ends n a = between (sum_below n (λ i. (a i).lo)) (sum_below n (λ i. (a i).hi))

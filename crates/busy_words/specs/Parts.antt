-- Parts of weights: of the weights of n places, w i at the place i, the share that some of them have, or that
-- each has that is counted so many times.
use Rattle.std.specs.Prelude.{ℕ, ◌*◌, Bool, not, ◌&&◌, nat_le, nat_lt}
use Rattle.fixed_interval.specs.Ends.{Ends, ratio_ends, scaled_ends, share_ends}
use Rattle.hyper_model.specs.Sums.{sum_below}
use Rattle.busy_words.specs.Algebra.{total_ends, where_ends}

-- the sum of the weights, each times its number
abbrev pub weighed_ends : ℕ → (ℕ → ℕ) → (ℕ → Ends) → Ends
weighed_ends n times w = total_ends n (λ i. scaled_ends (times i) (w i))

-- the same sum of numbers
abbrev pub weighed_numbers : ℕ → (ℕ → ℕ) → (ℕ → ℕ) → ℕ
weighed_numbers n times y = sum_below n (λ i. times i * y i)

-- an interval divided by g, rounded outward
abbrev pub divided_ends : ℕ → Ends → Ends
divided_ends g a = ratio_ends a 1 g

-- The part, in the given unit, of the weights each `times` times among all: `rest` says how many times each
-- stands in what is left, and g how many times in both.
abbrev pub part : ℕ → ℕ → ℕ → (ℕ → ℕ) → (ℕ → ℕ) → (ℕ → Ends) → Ends
part unit n g times rest w = share_ends unit (divided_ends g (weighed_ends n times w)) (divided_ends g (weighed_ends n rest w))

-- the sum of the weights of the places that pass a test
abbrev pub set_ends : ℕ → (ℕ → Bool) → (ℕ → Ends) → Ends
set_ends n test w = total_ends n (λ i. where_ends (test i) (w i))

-- their part among all
abbrev pub set_part : ℕ → ℕ → (ℕ → Bool) → (ℕ → Ends) → Ends
set_part unit n test w = share_ends unit (set_ends n test w) (set_ends n (λ i. not (test i)) w)

-- the place is not before the first of two, and before the second
abbrev pub is_from_to : ℕ → ℕ → ℕ → Bool
is_from_to first past i = nat_le first i && nat_lt i past

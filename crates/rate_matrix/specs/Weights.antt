-- The weights of the states, from the entries that an elimination leaves: each state's weight follows from those
-- of the states before it. All weights together stand for masses up to one common factor.
use Rattle.std.specs.Prelude.{◌≡◌, ℕ, zero, suc, ◌*◌, ◌/◌, ◌^◌, List, [], ◌∷◌}
use Rattle.std.specs.Int.{div_ceil}
use Rattle.fixed_interval.specs.Ends.{Ends, between, exact_ends}
use Rattle.fixed_interval.specs.WeightList.{PushesShifted, ends_at}
use Rattle.hyper_model.specs.Sums.{sum_below}
use Rattle.rate_matrix.specs.Elimination.{Entries}
use Rattle.busy_words.specs.Algebra.{total_ends}

-- what flows into state m from the states before it
abbrev pub inflow_ends : Entries → List Ends → ℕ → Ends
inflow_ends entries weights m =
    between
    (sum_below m (λ i. (ends_at weights i).lo * (entries i m).lo))
    (sum_below m (λ i. (ends_at weights i).hi * (entries i m).hi))

-- the weight of state m: what flows in, over what flows out of a weight of 1
abbrev pub weight_of : Entries → List Ends → ℕ → Ends
weight_of entries weights m =
    between
    ((inflow_ends entries weights m).lo / (total_ends m (entries m)).hi)
    (div_ceil (inflow_ends entries weights m).hi (total_ends m (entries m)).lo)

-- the weights of the first n states: the first state has 2 ^ 52, and each next one is pushed with its shift
unfoldable pub AreWeightsOf : Entries → ℕ → List Ends → Type 0
AreWeightsOf entries zero items = items ≡ []
AreWeightsOf entries (suc zero) items = items ≡ exact_ends (2 ^ 52) ∷ []
AreWeightsOf entries (suc (suc m)) items =
    (before : List Ends) × AreWeightsOf entries (suc m) before
    × PushesShifted before items (weight_of entries before (suc m))

-- The weights of any chain of so many states, none of which is left faster than at the rate `top`.
use Rattle.std.specs.Prelude.{ℕ, ◌-◌, ◌*◌, ◌/◌, ◌^◌, List}
use Rattle.fixed_interval.specs.Ends.{Ends, exact_ends}
use Rattle.hyper_model.specs.Tables.{RateTable, between_states}
use Rattle.rate_matrix.specs.Elimination.{Entries, entries_left_after, outflow_of}
use Rattle.rate_matrix.specs.Weights.{AreWeightsOf}

-- the scale in which no state's rates sum to more than 2 ^ 62
abbrev pub chain_scale : ℕ → ℕ
chain_scale top = 2 ^ 62 / top

-- before any elimination: the rate from each state to each other
unfoldable pub entries_begun : ℕ → RateTable → Entries
entries_begun top rates i j = exact_ends (chain_scale top * between_states rates i j)

-- no entry of a state goes past all that leaves it
unfoldable pub caps_begun : ℕ → ℕ → RateTable → ℕ → ℕ
caps_begun size top rates i = chain_scale top * outflow_of size rates i

-- after all states but the first were eliminated, the last one first
abbrev pub entries_ended : ℕ → ℕ → RateTable → Entries
entries_ended size top rates = entries_left_after (entries_begun top rates) (caps_begun size top rates) size (size - 1)

-- one weight for each state
abbrev pub AreChainWeights : ℕ → ℕ → RateTable → List Ends → Type 0
AreChainWeights size top rates items = AreWeightsOf (entries_ended size top rates) size items

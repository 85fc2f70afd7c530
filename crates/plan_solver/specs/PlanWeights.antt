-- The weights of a plan: those of the chain of its words, and if calls wait one more for all states in which one
-- does.
use Rattle.std.specs.Prelude.{ℕ, ◌-◌, ◌*◌, ◌/◌, ◌^◌, List}
use Rattle.fixed_interval.specs.Ends.{Ends, exact_ends}
use Rattle.hyper_model.specs.declared.kinds.Line.{Line}
use Rattle.hyper_model.specs.declared.kinds.Line.TheVariants as line
use Rattle.hyper_model.specs.declared.parts.PlanParts.{PlanParts}
use Rattle.hyper_model.specs.Plans.{all_calls, all_service}
use Rattle.hyper_model.specs.Solutions.{IsSolution}
use Rattle.hyper_model.specs.Tables.{between_states}
use Rattle.hyper_model.specs.Words.{words}
use Rattle.busy_words.specs.Order.{WordOrder}
use Rattle.busy_words.specs.WeightParts.{EnclosesSolution, IsOrderOf}
use Rattle.rate_matrix.specs.Elimination.{Entries, entries_left_after, outflow_of}
use Rattle.rate_matrix.specs.Weights.{AreWeightsOf}
use Rattle.rate_matrix.specs.WordChains.{word_rates, word_top}
use Rattle.queue_tail.specs.Tail.{GainsTail}

-- the scale in which no word's rates sum to more than 2 ^ 62
abbrev pub word_scale : PlanParts → ℕ
word_scale p = 2 ^ 62 / word_top p

-- before any elimination: the rate from each word to each other, by rank
unfoldable pub first_entries : PlanParts → WordOrder → Entries
first_entries p order i j = exact_ends (word_scale p * between_states (word_rates p order) i j)

-- no entry of a word goes past all that leaves it
unfoldable pub word_caps : PlanParts → WordOrder → ℕ → ℕ
word_caps p order i = word_scale p * outflow_of (words p) (word_rates p order) i

-- after all words but the first were eliminated, the last one first
abbrev pub last_entries : PlanParts → WordOrder → Entries
last_entries p order = entries_left_after (first_entries p order) (word_caps p order) (words p) (words p - 1)

-- one weight for each word
abbrev pub AreWordWeights : PlanParts → WordOrder → List Ends → Type 0
AreWordWeights p order items = AreWeightsOf (last_entries p order) (words p) items

-- and after them, if calls wait, that of the tail
abbrev pub AreWeightsOn : Line → PlanParts → WordOrder → List Ends → Type 0
AreWeightsOn line.Zero p order items = AreWordWeights p order items
AreWeightsOn line.Infinite p order items =
    (before : List Ends) × AreWordWeights p order before × GainsTail (all_calls p) (all_service p) before items

-- the weights of a plan, in the order of its words
pub record ArePlanWeights (p : PlanParts) (order : WordOrder) (items : List Ends) : Type 0 where
  pub ordered : IsOrderOf p order
  pub weights : AreWeightsOn p.line p order items

-- they are, and they enclose every solution of the plan up to one common factor
pub record WeighPlan (p : PlanParts) (order : WordOrder) (items : List Ends) : Type 0 where
  pub weights : ArePlanWeights p order items
  pub encloses : (xs : List ℕ) (z : ℕ) → IsSolution p xs z → EnclosesSolution p order items xs z

-- The words of a plan as the states of a chain, in their order.
use Rattle.std.specs.Prelude.{ℕ, ◌+◌, ◌*◌, ◌≤◌, List, map}
use Rattle.hyper_model.specs.declared.parts.PlanParts.{PlanParts}
use Rattle.hyper_model.specs.Plans.{units, all_calls, all_service, split}
use Rattle.hyper_model.specs.Laws.{level}
use Rattle.hyper_model.specs.Solutions.{mass_in}
use Rattle.hyper_model.specs.Tables.{RateTable, word_table, relabelled}
use Rattle.busy_words.specs.Order.{WordOrder, word_at}

-- the rates between words, by rank
abbrev pub word_rates : PlanParts → WordOrder → RateTable
word_rates p order = relabelled (word_at order) (word_table p)

-- no word is left faster than at the rate of all calls and all services
abbrev pub word_top : PlanParts → ℕ
word_top p = split p * (all_calls p + all_service p)

-- masses of the words, by rank
abbrev pub by_rank : WordOrder → List ℕ → List ℕ
by_rank order xs = map (mass_in xs) order.words

-- how many units are busy in the word of this rank
abbrev pub rank_level : PlanParts → WordOrder → ℕ → ℕ
rank_level p order i = level (units p) (word_at order i)

-- between words whose numbers of busy units differ by one at most
abbrev pub AreNeighbours : PlanParts → WordOrder → ℕ → ℕ → Type 0
AreNeighbours p order i j =
    (rank_level p order i ≤ rank_level p order j + 1) × (rank_level p order j ≤ rank_level p order i + 1)

-- The exact ends of the measures, from the weights of a plan with waiting places. The full word is the last of the words,
-- and the state in which k calls wait stands k places after it.
use Rattle.std.specs.Prelude.{◌≡◌, ℕ, ◌+◌, ◌-◌, ◌*◌, ◌^◌, Bool, List, ◌∷◌, length, map}
use Rattle.std.specs.List.{range_with_len}
use Rattle.std.specs.Int.{div_ceil}
use Rattle.fixed_interval.specs.Ends.{Ends, outward_ends, quotient_ends, scaled_ends}
use Rattle.fixed_interval.specs.WeightList.{ends_at}
use Rattle.hyper_model.specs.declared.parts.PlanParts.{PlanParts}
use Rattle.hyper_model.specs.Plans.{units, all_calls, all_service}
use Rattle.hyper_model.specs.Words.{full_word, is_busy}
use Rattle.busy_words.specs.Algebra.{total_ends}
use Rattle.busy_words.specs.Order.{WordOrder, word_or_full}
use Rattle.busy_words.specs.Parts.{is_from_to, set_part, weighed_ends}
use Rattle.finite_line.specs.declared.kinds.FiniteMeasure.{FiniteMeasure}
use Rattle.finite_line.specs.declared.kinds.FiniteMeasure.TheVariants as measure
use Rattle.finite_line.specs.declared.kinds.FiniteEnds.{FiniteEnds}
use Rattle.finite_line.specs.FiniteWeights.{AreFiniteWeights}

-- the part that the places that pass a test have in all, in millionths
abbrev pub share_of_places : List Ends → (ℕ → Bool) → Ends
share_of_places items test = outward_ends 1000000 (set_part (2 ^ 62) (length items) test (ends_at items))

-- the sum of the first n weights
abbrev pub sum_of_weights : ℕ → List Ends → Ends
sum_of_weights n items = total_ends n (ends_at items)

-- the sum of the weights, each times the number of calls that wait at its place: at the place i these are i - full
abbrev pub queued_ends : ℕ → List Ends → Ends
queued_ends full items = weighed_ends (length items) (λ i. i - full) (ends_at items)

-- the mean number of calls that wait, in millionths of a call; never more wait than there are places
abbrev pub queue_ends : PlanParts → ℕ → List Ends → Ends
queue_ends p room items =
    quotient_ends (scaled_ends 1000000 (queued_ends (full_word p) items)) (sum_of_weights (length items) items) (1000000 * room)

-- the mean wait of the calls that are not lost, in thousandths of a second; who finds all other places taken waits on
-- average for so many services of all units
abbrev pub wait_ends : PlanParts → ℕ → List Ends → Ends
wait_ends p room items =
    quotient_ends (scaled_ends (1000 * p.period) (queued_ends (full_word p) items))
    (scaled_ends (all_calls p) (sum_of_weights (length items - 1) items)) (div_ceil (1000 * p.period * room) (all_service p))

abbrev pub ends_of : PlanParts → ℕ → WordOrder → List Ends → FiniteMeasure → Ends
ends_of p room order items measure.Lost = share_of_places items (is_from_to (full_word p + room) (full_word p + room + 1))
ends_of p room order items measure.Delayed = share_of_places items (is_from_to (full_word p) (full_word p + room))
ends_of p room order items measure.Busy = share_of_places items (is_from_to (full_word p) (full_word p + room + 1))
ends_of p room order items measure.Queue = queue_ends p room items
ends_of p room order items measure.Wait = wait_ends p room items
ends_of p room order items (measure.Workload n) = share_of_places items (λ i. is_busy (word_or_full order i) n)

abbrev pub finite_item : FiniteMeasure → Ends → FiniteEnds
finite_item m a = record { measure = m; lo = a.lo; hi = a.hi }

abbrev pub item_of : PlanParts → ℕ → WordOrder → List Ends → FiniteMeasure → FiniteEnds
item_of p room order items m = finite_item m (ends_of p room order items m)

-- one for each unit
abbrev pub workload_items : PlanParts → ℕ → WordOrder → List Ends → List FiniteEnds
workload_items p room order items = map (λ n. item_of p room order items (measure.Workload n)) (range_with_len 0 (units p))

-- all measures with their ends, in the order in which they are printed
abbrev pub finite_items : PlanParts → ℕ → WordOrder → List Ends → List FiniteEnds
finite_items p room order items =
    item_of p room order items measure.Lost
    ∷ item_of p room order items measure.Delayed
    ∷ item_of p room order items measure.Busy
    ∷ item_of p room order items measure.Queue
    ∷ item_of p room order items measure.Wait
    ∷ workload_items p room order items

-- the list has the measures of the plan with so many waiting places, with the ends that its weights give
pub record IsFiniteEnclosureOf (p : PlanParts) (room : ℕ) (found : List FiniteEnds) : Type 0 where
  pub order : WordOrder
  pub items : List Ends
  pub weights : AreFiniteWeights p room order items
  pub exact : found ≡ finite_items p room order items

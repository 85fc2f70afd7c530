-- The exact ends of the measures, from the weights of the words in their order, and the list of all of them in the
-- order in which they are printed.
use Rattle.std.specs.Prelude.{◌≡◌, ℕ, ◌+◌, ◌-◌, ◌*◌, ◌^◌, ◌<◌, ◌==◌, Bool, true, not, ◌&&◌, List, [], ◌∷◌, ◌++◌, map}
use Rattle.std.specs.List.{flat_map, range_with_len}
use Rattle.fixed_interval.specs.Ends.{Ends, exact_ends, outward_ends, quotient_ends, scaled_ends, share_ends}
use Rattle.fixed_interval.specs.WeightList.{ends_at}
use Rattle.hyper_model.specs.declared.parts.PlanParts.{PlanParts}
use Rattle.hyper_model.specs.Plans.{units, atoms, calls_of, all_calls}
use Rattle.hyper_model.specs.Words.{words, full_word, is_busy}
use Rattle.busy_words.specs.Order.{WordOrder, word_at}
use Rattle.busy_words.specs.Parts.{set_ends, weighed_ends}
use Rattle.busy_words.specs.WeightParts.{IsOrderOf}
use Rattle.pair_dispatch.specs.declared.measure.PairMeasure.{PairMeasure}
use Rattle.pair_dispatch.specs.declared.measure.PairMeasure.TheVariants as measure
use Rattle.pair_dispatch.specs.declared.measure.PairEnds.{PairEnds}
use Rattle.pair_dispatch.specs.declared.word_set.WordSet.{WordSet}
use Rattle.pair_dispatch.specs.declared.word_set.WordSet.TheVariants as set
use Rattle.pair_dispatch.specs.ChainWeights.{AreChainWeights}
use Rattle.pair_dispatch.specs.PairMeasures.{has_one_free, has_two_free, sends_both}
use Rattle.pair_dispatch.specs.PairRates.{pair_rates, pair_top}

-- the words of a set
abbrev pub is_member : PlanParts → WordSet → ℕ → Bool
is_member p set.Full word = word == full_word p
is_member p set.OneFree word = has_one_free p word
is_member p (set.Busy n) word = is_busy word n
is_member p (set.BothSent j a b) word = sends_both p j a b word

-- the words among which its part is taken
abbrev pub is_base : PlanParts → WordSet → ℕ → Bool
is_base p set.Full word = true
is_base p set.OneFree word = true
is_base p (set.Busy n) word = true
is_base p (set.BothSent j a b) word = has_two_free p word

-- the unit and the atom are the plan's
abbrev pub IsSetOf : PlanParts → WordSet → Type 0
IsSetOf p set.Full = Prim.Unit {0}
IsSetOf p set.OneFree = Prim.Unit {0}
IsSetOf p (set.Busy n) = n < units p
IsSetOf p (set.BothSent j a b) = (j < atoms p) × (a < units p) × (b < units p)

-- the others among them
abbrev pub is_other : PlanParts → WordSet → ℕ → Bool
is_other p s word = is_base p s word && not (is_member p s word)

-- the part of the set, in units of 2 ^ -62
abbrev pub part_of : PlanParts → WordOrder → (ℕ → Ends) → WordSet → Ends
part_of p order w s =
    share_ends (2 ^ 62) (set_ends (words p) (λ i. is_member p s (word_at order i)) w)
    (set_ends (words p) (λ i. is_other p s (word_at order i)) w)

-- the parts of the words in which a and b are sent to an atom's call, each times the rate of the atom's calls
abbrev pub both_sent_ends : PlanParts → WordOrder → (ℕ → Ends) → ℕ → ℕ → Ends
both_sent_ends p order w a b = weighed_ends (atoms p) (calls_of p) (λ j. part_of p order w (set.BothSent j a b))

-- a measure with its ends, in millionths
abbrev pub measure_ends : PairMeasure → Ends → PairEnds
measure_ends m a = record { measure = m; lo = a.lo; hi = a.hi }

abbrev pub share_of : PlanParts → WordOrder → List Ends → PairMeasure → WordSet → PairEnds
share_of p order items m s = measure_ends m (outward_ends 1000000 (part_of p order (ends_at items) s))

abbrev pub workload_of : PlanParts → WordOrder → List Ends → ℕ → PairEnds
workload_of p order items n = share_of p order items (measure.Workload n) (set.Busy n)

-- the sum over the atoms, over the rate of all calls, and at most the whole
abbrev pub pair_of : PlanParts → WordOrder → List Ends → ℕ → ℕ → PairEnds
pair_of p order items a b =
    measure_ends (measure.Pair a b)
    (quotient_ends (scaled_ends 1000000 (both_sent_ends p order (ends_at items) a b)) (exact_ends (2 ^ 62 * all_calls p)) 1000000)

-- unit a with each unit after it
abbrev pub pairs_from : PlanParts → WordOrder → List Ends → ℕ → List PairEnds
pairs_from p order items a = map (pair_of p order items a) (range_with_len (a + 1) (units p - (a + 1)))

abbrev pub measures_of : PlanParts → WordOrder → List Ends → List PairEnds
measures_of p order items =
    share_of p order items measure.Loss set.Full
    ∷ share_of p order items measure.Short set.OneFree
    ∷ map (workload_of p order items) (range_with_len 0 (units p))
    ++ flat_map (pairs_from p order items) (range_with_len 0 (units p))

-- the weights of the words, in their order
pub record ArePairWeights (p : PlanParts) (percent : ℕ) (order : WordOrder) (items : List Ends) : Type 0 where
  pub ordered : IsOrderOf p order
  pub weights : AreChainWeights (words p) (pair_top p) (pair_rates p percent order) items

-- the list has all measures, with the ends that the weights give
pub record IsPairEnclosureOf (p : PlanParts) (percent : ℕ) (found : List PairEnds) : Type 0 where
  pub order : WordOrder
  pub items : List Ends
  pub weights : ArePairWeights p percent order items
  pub exact : found ≡ measures_of p order items

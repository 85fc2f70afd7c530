-- The ends of each measure contain it, for every solution of the plan with its waiting places.
use Rattle.std.proofs.Common.{◌≡◌, ℕ, zero, suc, ◌+◌, ◌-◌, ◌*◌, ◌^◌, ◌<◌, ◌≤◌, Bool, cond, List, All, length, slice_index, refl, sym, ap, subst, ◌∙◌, arith}
use Rattle.std.specs.Int.{div_ceil}
use Rattle.std.proofs.lemmas.Grind.{div_ceil_times}
use Rattle.std.proofs.Math.Nat.{mul-le-mul_left, mul-le-mul_right}
use Rattle.fixed_interval.specs.Ends.{Ends, Encloses, quotient_ends, scaled_ends}
use Rattle.fixed_interval.specs.WeightList.{EnclosesAll, IsWeight, ends_at}
use Rattle.fixed_interval.proofs.Rounding.{encloses_outward, encloses_quotient, encloses_same, encloses_scaled}
use Rattle.fixed_interval.proofs.Scaled.{AreScaled, Holds, holds_of_list}
use Rattle.hyper_model.specs.declared.kinds.Line.TheVariants as line
use Rattle.hyper_model.specs.declared.parts.PlanParts.{PlanParts}
use Rattle.hyper_model.specs.Sums.{sum_below}
use Rattle.hyper_model.specs.Plans.{units, all_calls, all_service, IsAccepted}
use Rattle.hyper_model.specs.Words.{words, full_word, is_busy}
use Rattle.hyper_model.specs.Solutions.{mass_in, IsSolution}
use Rattle.hyper_model.specs.Measures.{busy_mass}
use Rattle.hyper_model.specs.Laws.{waiting_in}
use Rattle.hyper_model.proofs.Bits.{full_busy, words_full}
use Rattle.hyper_model.proofs.PlanLaws.{full_below}
use Rattle.hyper_model.proofs.PlanSums.{service_positive}
use Rattle.hyper_model.proofs.Sums.{sum-same, sum-scaled, sum_none}
use Rattle.busy_words.specs.Order.{WordOrder, word_or_full}
use Rattle.busy_words.specs.Parts.{is_from_to, set_part, weighed_numbers}
use Rattle.busy_words.specs.WeightParts.{EnclosesSolution, IsOrderOf, masses_by_place, places_on, tail_masses}
use Rattle.busy_words.proofs.Algebra.{encloses_total}
use Rattle.busy_words.proofs.MeasureEnds.{contains_ratio}
use Rattle.busy_words.proofs.Places as places_of
use Rattle.busy_words.proofs.SetParts.{encloses_weighed, numbers_scaled, scaled_in_all, set_part_encloses}
use Rattle.busy_words.proofs.Spans.{sum_after, sum_from_to}
use Rattle.plan_solver.specs.PlanWeights.{AreWeightsOn}
use Rattle.plan_solver.proofs.PlanChains.{encloses, in_range}
use Rattle.finite_line.specs.declared.kinds.FiniteMeasure.{FiniteMeasure}
use Rattle.finite_line.specs.declared.kinds.FiniteMeasure.TheVariants as measure
use Rattle.finite_line.specs.FiniteMeasures.{IsFiniteContained, IsFiniteInRange, finite_ratio, queued_calls}
use Rattle.finite_line.specs.FiniteSolutions.{IsFiniteSolution, queue_mass, whole_mass}
use Rattle.finite_line.specs.FiniteWeights.{AreFiniteWeights}
use Rattle.finite_line.specs.PrintedEnds.{ends_of, finite_items, item_of, queue_ends, queued_ends, share_of_places, sum_of_weights, wait_ends}
use Rattle.finite_line.proofs.Items.{all_items}
use Rattle.finite_line.proofs.QueueMasses.{next_state, queued_most, solves_plan, waiting_most}
use Rattle.finite_line.proofs.QueueWeights.{queue_count, queue_encloses, queue_mass_at, with_queue, word_mass_at}

-- The quotient of two sums that are enclosed up to one common factor contains the quotient of their numbers.
quotient_of_sums : (s t : Ends) (cap f a b den : ℕ) → 0 < f → Encloses s (f * a) den → Encloses t (f * b) den → a ≤ cap * b
    → Encloses (quotient_ends s t cap) a b
quotient_of_sums s t cap f a b den some es et fits =
    encloses_same (quotient_ends s t cap) f a b (f * a) (f * b) some refl refl
    (encloses_quotient s t (quotient_ends s t cap) cap refl (f * a) (f * b) den es et (omega (arith, mul-le-mul_left f fits)))

-- nobody waits longer on average than all places together take
wait_fits : (period room service calls queued waiting answered : ℕ) → 0 < service → queued ≤ room * waiting
    → service * waiting ≤ calls * answered
    → period * queued ≤ div_ceil (period * room) service * (calls * answered)
wait_fits period room service calls queued waiting answered served most balance =
    let cap = div_ceil (period * room) service in
    let rounded : period * room ≤ cap * service = (div_ceil_times (period * room) service served).0 in
    omega (
      arith,
      mul-le-mul_left period most,
      mul-le-mul_right waiting rounded,
      mul-le-mul_left cap balance,
    )

from_none : (n : ℕ) (q : ℕ → ℕ) → sum_below n (λ k. q (0 + k)) ≡ sum_below n q
from_none n q = sum-same n (λ k. q (0 + k)) q (λ k l. ap q (let same : 0 + k ≡ k = omega arith in same))

module _ (p : PlanParts) (a : IsAccepted p) (zero_line : p.line ≡ line.Zero) (room : ℕ) (some : 1 ≤ room) (order : WordOrder)
    (items : List Ends) (w : AreFiniteWeights p room order items) (xs qs : List ℕ) (s : IsFiniteSolution p room xs qs) where
  abbrev x : ℕ → ℕ
  x = mass_in xs

  abbrev q : ℕ → ℕ
  q = queue_mass p xs qs

  o : IsOrderOf p order
  o = w.solved.ordered

  words_solve : IsSolution p xs 0
  words_solve = solves_plan p a room some xs qs s zero_line

  abbrev word_masses : List ℕ
  word_masses = masses_by_place p order xs 0

  words_enclosed : EnclosesSolution p order w.words xs 0
  words_enclosed = encloses p a order o xs 0 words_solve w.words w.solved.weights

  word_count : length word_masses ≡ words p
  word_count = places_of.one_each_place p order o xs 0 ∙ ap (λ l. places_on l p) zero_line

  weight_count : length w.words ≡ words p
  weight_count = words_enclosed.encloses.same_length ∙ word_count

  abbrev number : ℕ → ℕ
  number i = slice_index (with_queue word_masses q room) i

  word_number : (i : ℕ) → i < words p → number i ≡ slice_index word_masses i
  word_number i l = word_mass_at word_masses q room i (omega (arith, word_count))

  full_number : slice_index word_masses (full_word p) ≡ q 0
  full_number =
      places_of.mass_of_word p order o xs (tail_masses p.line 0) (full_word p) (full_below p)
      ∙ ap x (places_of.full_place p order o)

  -- the state in which k calls wait stands k places after the full word
  queue_number : (k : ℕ) → k ≤ room → number (full_word p + k) ≡ q k
  queue_number zero l =
      ap number (let same : full_word p + 0 ≡ full_word p = omega arith in same)
      ∙ word_number (full_word p) (full_below p) ∙ full_number
  queue_number (suc k) l =
      queue_mass_at word_masses q room k (full_word p + suc k) (omega arith)
      (omega (arith, word_count, words_full (units p)))

  count : length items ≡ full_word p + room + 1
  count =
      omega (
        arith,
        queue_count (all_calls p) (all_service p) room w.words items w.queue,
        weight_count,
        words_full (units p),
      )

  enclosing : EnclosesAll items (with_queue word_masses q room)
  enclosing =
      let last : length word_masses - 1 ≡ full_word p = omega (arith, word_count, words_full (units p)) in
      queue_encloses (all_calls p) (all_service p) (service_positive p a.units) w.words
      (omega (arith, weight_count, words_full (units p))) weights_in_range word_masses q
      (ap (slice_index word_masses) last ∙ full_number) words_enclosed.encloses room items w.queue
      (next_state p a room some xs qs s)
    where
      weights_in_range : All IsWeight w.words
      weights_in_range = (in_range p a order o w.words (subst (λ l. AreWeightsOn l p order w.words) zero_line w.solved.weights)).1

  hold : Holds (length items) (ends_at items) number
  hold = holds_of_list items (with_queue word_masses q room) enclosing

  -- sums over the places are sums over the words and the states in which calls wait
  sum_of_states : (f : ℕ → ℕ → ℕ)
      → sum_below (length items) (λ i. f (word_or_full order i) (number i))
      ≡ sum_below (words p) (λ v. f v (x v)) + sum_below room (λ k. f (full_word p) (q (k + 1)))
  sum_of_states f =
      ap (λ n. sum_below n (λ i. f (word_or_full order i) (number i)))
      (let same : length items ≡ words p + room = omega (arith, count, words_full (units p)) in same)
      ∙ omega (
        arith,
        sum_after (words p) room (λ i. f (word_or_full order i) (number i)),
        sum-same (words p) (λ i. f (word_or_full order i) (number i)) (λ i. f (word_or_full order i) (slice_index word_masses i))
            (λ i l. ap (f (word_or_full order i)) (word_number i l)),
        places_of.sum_over_words p order o xs (tail_masses p.line 0) f,
        sum-same room (λ k. f (word_or_full order (words p + k)) (number (words p + k))) (λ k. f (full_word p) (q (k + 1)))
            (λ k l. past k l),
      )
    where
      past : (k : ℕ) → k < room
          → f (word_or_full order (words p + k)) (number (words p + k)) ≡ f (full_word p) (q (k + 1))
      past k l =
          let place : words p + k ≡ full_word p + (k + 1) = omega (arith, words_full (units p)) in
          ap (λ v. f v (number (words p + k))) (places_of.word_past p order o (words p + k) (omega arith))
          ∙ ap (f (full_word p)) (ap number place ∙ queue_number (k + 1) (omega arith))

  abbrev whole : ℕ
  whole = whole_mass p room x q

  sum_of_all : sum_below (length items) number ≡ whole
  sum_of_all = sum_of_states (λ v m. m)

  some_number : 0 < sum_below (length items) number
  some_number = omega (arith, sum_of_all, s.positive)

  -- the states in which all units are busy and some number of calls wait, from one up to another
  sum_of_queue : (first n rest : ℕ) → first + n + rest ≡ room + 1
      → sum_below (length items) (λ i. cond (is_from_to (full_word p + first) (full_word p + first + n) i) (number i) 0)
      ≡ sum_below n (λ k. q (first + k))
  sum_of_queue first n rest is =
      ap (λ m. sum_below m (λ i. cond (is_from_to (full_word p + first) (full_word p + first + n) i) (number i) 0))
      (let same : length items ≡ full_word p + first + n + rest = omega (arith, count) in same)
      ∙ sum_from_to (full_word p + first) n rest number
      ∙ sum-same n (λ k. number (full_word p + first + k)) (λ k. q (first + k))
      (λ k l.
      ap number (let same : full_word p + first + k ≡ full_word p + (first + k) = omega arith in same)
      ∙ queue_number (first + k) (omega arith))

  share_contained : (test : ℕ → Bool) (n : ℕ) → sum_below (length items) (λ i. cond (test i) (number i) 0) ≡ n
      → Encloses (share_of_places items test) (1000000 * n) whole
  share_contained test n is =
      encloses_outward (set_part (2 ^ 62) (length items) test (ends_at items)) (share_of_places items test) 1000000 refl n whole
      (rw (← is, ← sum_of_all) (set_part_encloses (2 ^ 62) (length items) test (ends_at items) number hold some_number))

  -- a share of the states from one number of waiting calls up to another
  queue_share : (first n rest from past : ℕ) → first + n + rest ≡ room + 1 → from ≡ full_word p + first
      → past ≡ full_word p + first + n
      → Encloses (share_of_places items (is_from_to from past)) (1000000 * sum_below n (λ k. q (first + k))) whole
  queue_share first n rest from past is is_from is_past =
      rw (is_from, is_past)
      (share_contained (is_from_to (full_word p + first) (full_word p + first + n)) (sum_below n (λ k. q (first + k)))
      (sum_of_queue first n rest is))

  scaled : AreScaled (length items) (ends_at items) number
  scaled = scaled_in_all (length items) (ends_at items) number hold some_number

  -- the calls that wait, over all places
  sum_of_queued : weighed_numbers (length items) (λ i. i - full_word p) number ≡ queued_calls room q
  sum_of_queued =
      ap (λ n. weighed_numbers n (λ i. i - full_word p) number)
      (let same : length items ≡ full_word p + (room + 1) = omega (arith, count) in same)
      ∙ omega (
        arith,
        sum_after (full_word p) (room + 1) (λ i. (i - full_word p) * number i),
        sum_none (full_word p) (λ i. (i - full_word p) * number i)
            (λ i l.
            ap (λ m. m * number i) (let none : i - full_word p ≡ 0 = omega arith in none)
            ∙ (let nothing : 0 * number i ≡ 0 = omega arith in nothing)),
        sum-same (room + 1) (λ k. (full_word p + k - full_word p) * number (full_word p + k)) (λ k. k * q k)
            (λ k l.
            ap (λ m. m * number (full_word p + k)) (let same : full_word p + k - full_word p ≡ k = omega arith in same)
            ∙ ap (λ m. k * m) (queue_number k (omega arith))),
      )

  queued_enclosed : Encloses (queued_ends (full_word p) items) (scaled.factor * queued_calls room q) scaled.den
  queued_enclosed =
      subst (λ n. Encloses (queued_ends (full_word p) items) n scaled.den)
      (numbers_scaled (length items) scaled.factor (λ i. i - full_word p) number ∙ ap (λ n. scaled.factor * n) sum_of_queued)
      (encloses_weighed (length items) (λ i. i - full_word p) (ends_at items) (λ i. scaled.factor * number i) scaled.den
      scaled.inside)

  first_enclosed : (n : ℕ) → n ≤ length items
      → Encloses (sum_of_weights n items) (scaled.factor * sum_below n number) scaled.den
  first_enclosed n le =
      subst (λ m. Encloses (sum_of_weights n items) m scaled.den) (sum-scaled n scaled.factor number)
      (encloses_total n (ends_at items) (λ i. scaled.factor * number i) scaled.den (λ i l. scaled.inside i (omega arith)))

  -- who finds the last of all states is lost
  sum_of_answered : sum_below (length items - 1) number ≡ whole - q room
  sum_of_answered =
      let last : length items ≡ suc (full_word p + room) = omega (arith, count) in
      let before : length items - 1 ≡ full_word p + room = omega (arith, count) in
      omega (
        arith,
        ap (λ n. sum_below n number) before,
        sym (ap (λ n. sum_below n number) last) ∙ sum_of_all,
        queue_number room (let le : room ≤ room = omega arith in le),
      )

  queue_enclosed : Encloses (queue_ends p room items) (1000000 * queued_calls room q) whole
  queue_enclosed =
      let queued = encloses_scaled (queued_ends (full_word p) items) (scaled_ends 1000000 (queued_ends (full_word p) items)) 1000000
      refl (scaled.factor * queued_calls room q) scaled.den queued_enclosed in
      let all = subst (λ n. Encloses (sum_of_weights (length items) items) (scaled.factor * n) scaled.den) sum_of_all
      (first_enclosed (length items) (omega arith)) in
      let waiting : waiting_in room q ≤ whole = omega arith in
      quotient_of_sums (scaled_ends 1000000 (queued_ends (full_word p) items)) (sum_of_weights (length items) items)
      (1000000 * room) scaled.factor (1000000 * queued_calls room q) whole scaled.den scaled.some
      (subst (λ n. Encloses (scaled_ends 1000000 (queued_ends (full_word p) items)) n scaled.den)
      (let same : 1000000 * (scaled.factor * queued_calls room q) ≡ scaled.factor * (1000000 * queued_calls room q) = omega arith in same) queued)
      all (omega (arith, queued_most room q, mul-le-mul_left room waiting))

  wait_enclosed : Encloses (wait_ends p room items) (1000 * (p.period * queued_calls room q)) (all_calls p * (whole - q room))
  wait_enclosed =
      let numerator = scaled_ends (1000 * p.period) (queued_ends (full_word p) items) in
      let denominator = scaled_ends (all_calls p) (sum_of_weights (length items - 1) items) in
      let queued = encloses_scaled (queued_ends (full_word p) items) numerator (1000 * p.period)
      refl (scaled.factor * queued_calls room q) scaled.den queued_enclosed in
      let answered = encloses_scaled (sum_of_weights (length items - 1) items) denominator (all_calls p) refl
      (scaled.factor * sum_below (length items - 1) number) scaled.den (first_enclosed (length items - 1) (omega arith)) in
      quotient_of_sums numerator denominator
      (div_ceil (1000 * p.period * room) (all_service p)) scaled.factor (1000 * (p.period * queued_calls room q))
      (all_calls p * (whole - q room)) scaled.den scaled.some
      (subst (λ n. Encloses numerator n scaled.den)
      (let same : 1000 * p.period * (scaled.factor * queued_calls room q) ≡ scaled.factor * (1000 * (p.period * queued_calls room q)) = omega arith in same) queued)
      (subst (λ n. Encloses denominator n scaled.den)
      (ap (λ n. all_calls p * (scaled.factor * n)) sum_of_answered
      ∙ (let same : all_calls p * (scaled.factor * (whole - q room)) ≡ scaled.factor * (all_calls p * (whole - q room)) = omega arith in same)) answered)
      (subst (λ n. n ≤ div_ceil (1000 * p.period * room) (all_service p) * (all_calls p * (whole - q room)))
      (let same : 1000 * p.period * queued_calls room q ≡ 1000 * (p.period * queued_calls room q) = omega arith in same)
      (wait_fits (1000 * p.period) room (all_service p) (all_calls p) (queued_calls room q) (waiting_in room q) (whole - q room)
      (service_positive p a.units) (queued_most room q) (waiting_most p a room some xs qs s)))

  workload_enclosed : (n : ℕ) → n < units p
      → Encloses (share_of_places items (λ i. is_busy (word_or_full order i) n)) (1000000 * busy_mass p x (waiting_in room q) n) whole
  workload_enclosed n l =
      share_contained (λ i. is_busy (word_or_full order i) n) (busy_mass p x (waiting_in room q) n)
      (sum_of_states (λ v m. cond (is_busy v n) m 0)
      ∙ ap (λ m. sum_below (words p) (λ v. cond (is_busy v n) (x v) 0) + m)
      (sum-same room (λ k. cond (is_busy (full_word p) n) (q (k + 1)) 0) (λ k. q (k + 1))
      (λ k inside. ap (λ b. cond b (q (k + 1)) 0) (full_busy (units p) n l))))

  contained : (m : FiniteMeasure) → IsFiniteInRange (units p) m → IsFiniteContained p room x q (item_of p room order items m)
  contained measure.Lost h =
      contains_ratio (ends_of p room order items measure.Lost) 1000000 (q room) whole (finite_ratio p room x q measure.Lost) refl refl
      (subst (λ n. Encloses (ends_of p room order items measure.Lost) (1000000 * n) whole)
      (let same : room + 0 ≡ room = omega arith in omega (arith, ap q same))
      (queue_share room 1 0 (full_word p + room) (full_word p + room + 1) (omega arith) refl refl))
  contained measure.Delayed h =
      contains_ratio (ends_of p room order items measure.Delayed) 1000000 (sum_below room q) whole (finite_ratio p room x q measure.Delayed) refl refl
      (subst (λ n. Encloses (ends_of p room order items measure.Delayed) (1000000 * n) whole) (from_none room q)
      (queue_share 0 room 1 (full_word p) (full_word p + room) (omega arith) (omega arith) (omega arith)))
  contained measure.Busy h =
      contains_ratio (ends_of p room order items measure.Busy) 1000000 (sum_below (room + 1) q) whole (finite_ratio p room x q measure.Busy) refl refl
      (subst (λ n. Encloses (ends_of p room order items measure.Busy) (1000000 * n) whole) (from_none (room + 1) q)
      (queue_share 0 (room + 1) 0 (full_word p) (full_word p + room + 1) (omega arith) (omega arith) (omega arith)))
  contained measure.Queue h =
      contains_ratio (queue_ends p room items) 1000000 (queued_calls room q) whole (finite_ratio p room x q measure.Queue) refl refl
      queue_enclosed
  contained measure.Wait h =
      contains_ratio (wait_ends p room items) 1000 (p.period * queued_calls room q) (all_calls p * (whole - q room))
      (finite_ratio p room x q measure.Wait) refl refl wait_enclosed
  contained (measure.Workload n) h =
      contains_ratio (ends_of p room order items (measure.Workload n)) 1000000 (busy_mass p x (waiting_in room q) n) whole
      (finite_ratio p room x q (measure.Workload n)) refl refl (workload_enclosed n h)

  pub items_contained : All (IsFiniteContained p room x q) (finite_items p room order items)
  items_contained = all_items p room order items (IsFiniteContained p room x q) contained

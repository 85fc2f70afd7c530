-- The ends of each measure contain it, whatever masses the weights enclose: those of every solution of the plan are some.
use Rattle.std.proofs.Common.{◌≡◌, ℕ, ◌+◌, ◌-◌, ◌*◌, ◌^◌, ◌<◌, All, List, [], ◌∷◌, refl, sym, ap, subst, arith}
use Rattle.std.proofs.lemmas.List.Elements.{All-nil, All-cons, All-append}
use Rattle.std.proofs.Math.Nat.{mul-pos}
use Rattle.fixed_interval.specs.Ends.{Ends, Encloses, ratio_ends}
use Rattle.fixed_interval.specs.WeightList.{ends_at}
use Rattle.fixed_interval.proofs.Rounding.{encloses_same, encloses_outward, encloses_ratio}
use Rattle.hyper_model.specs.declared.kinds.Line.{Line}
use Rattle.hyper_model.specs.declared.kinds.Line.TheVariants as line
use Rattle.hyper_model.specs.declared.kinds.Measure.TheVariants as measure
use Rattle.hyper_model.specs.declared.kinds.Found.TheVariants as found
use Rattle.hyper_model.specs.declared.kinds.Enclosed.{Enclosed}
use Rattle.hyper_model.specs.declared.parts.PlanParts.{PlanParts}
use Rattle.hyper_model.specs.Plans.{units, all_calls, all_service, IsAccepted}
use Rattle.hyper_model.specs.Words.{full_word}
use Rattle.hyper_model.specs.Solutions.{mass_in, IsTail}
use Rattle.hyper_model.specs.Measures.{busy_mass, mass, loss_on, delay_on, queue_on, wait_on, ContainsRatio, IsInRange, IsFoundOf, IsContained, AreContained}
use Rattle.hyper_model.proofs.PlanLaws.{stable_of}
use Rattle.hyper_model.proofs.Ranges.{all_range}
use Rattle.busy_words.specs.Order.{WordOrder}
use Rattle.busy_words.specs.MeasureEnds.{measure_ends}
use Rattle.busy_words.specs.WeightParts.{IsOrderOf, EnclosesMasses, EnclosesSolution, busy_part, full_part, tail_part}
use Rattle.busy_words.proofs.MeasureEnds.{contains_ratio}
use Rattle.busy_words.proofs.MassParts.{mass_of_base, busy_part_encloses, full_part_encloses, tail_part_encloses}
use Rattle.busy_words.proofs.WeightParts.{masses_enclosed}
use Rattle.workload_measures.specs.LoadEnds.{line_measures, loads_of, loss_or_delay_on, loss_ends, queue_ends, wait_ends, workload_ends, workload_of, workloads_of}

without_tail : (i : Ends) (k x z d : ℕ) → z ≡ 0 → Encloses i (k * (x + z)) d → Encloses i (k * x) d
without_tail i k x z d none e = record {
  low = omega (arith, e.low, ap (λ n. k * n) none);
  high = omega (arith, e.high, ap (λ n. k * n) none);
}

-- a part of 2 ^ 62, times num / den
multiple_of_part : (q : Ends) (num den z m a b : ℕ) → 0 < den → a ≡ z * num → b ≡ den * m → Encloses q (2 ^ 62 * z) m
    → Encloses (ratio_ends q num (2 ^ 62 * den)) a b
multiple_of_part q num den z m a b some is_a is_b e =
    encloses_same (ratio_ends q num (2 ^ 62 * den)) (2 ^ 62) a b (2 ^ 62 * z * num) (2 ^ 62 * den * m) (omega arith)
    (omega arith) (omega arith)
    (encloses_ratio q (ratio_ends q num (2 ^ 62 * den)) num (2 ^ 62 * den) (omega arith) refl (2 ^ 62 * z) m e)

-- the queue of z over m, and the wait in it, if the calls leave spare service
queue_of_part : (q : Ends) (service spare z m : ℕ) → 0 < spare → Encloses q (2 ^ 62 * z) m
    → Encloses (ratio_ends q (1000000 * service) (2 ^ 62 * spare)) (1000000 * (z * service)) (m * spare)
queue_of_part q service spare z m some e =
    multiple_of_part q (1000000 * service) spare z m (1000000 * (z * service)) (m * spare) some (omega arith) (omega arith) e

wait_of_part : (q : Ends) (period service spare calls z m : ℕ) → 0 < spare → 0 < calls → Encloses q (2 ^ 62 * z) m
    → Encloses (ratio_ends q (1000 * period * service) (2 ^ 62 * (spare * calls))) (1000 * (period * z * service))
    (m * spare * calls)
wait_of_part q period service spare calls z m some some_calls e =
    multiple_of_part q (1000 * period * service) (spare * calls) z m (1000 * (period * z * service)) (m * spare * calls)
    (mul-pos some some_calls) (omega arith) (omega arith) e

-- each speaks of the region, or of one of the plan's units
pub line_in_range : (p : PlanParts) (l : Line) (items : List Ends) → All (λ e. IsInRange p e.measure) (line_measures l p items)
line_in_range p line.Zero items =
    All-cons (λ e. IsInRange p e.measure) (measure_ends measure.Loss (loss_ends p items)) [] tt
    (All-nil (λ e. IsInRange p e.measure))
line_in_range p line.Infinite items =
    let InRange : Enclosed → Type 0 = λ e. IsInRange p e.measure in
    let wait = measure_ends measure.Wait (wait_ends p items) in
    let queue = measure_ends measure.Queue (queue_ends p items) in
    All-cons InRange (measure_ends measure.Delay (loss_ends p items)) (queue ∷ wait ∷ []) tt
    (All-cons InRange queue (wait ∷ []) tt (All-cons InRange wait [] tt (All-nil InRange)))

pub loads_in_range : (p : PlanParts) (order : WordOrder) (items : List Ends)
    → All (λ e. IsInRange p e.measure) (loads_of p order items)
loads_in_range p order items =
    All-append (λ e. IsInRange p e.measure) (line_measures p.line p items) (workloads_of p order items)
    (line_in_range p p.line items)
    (all_range (λ e. IsInRange p e.measure) (workload_of p order items) (units p) (λ n l. l))

module _ (p : PlanParts) (a : IsAccepted p) (order : WordOrder) (o : IsOrderOf p order) (items : List Ends) (xs : List ℕ)
    (z : ℕ) (e : EnclosesMasses p order items xs z) where
  some_mass : 0 < mass p (mass_in xs) z
  some_mass = mass_of_base p (mass_in xs) z e.some

  loss_enclosed : Encloses (loss_ends p items) (1000000 * (mass_in xs (full_word p) + z)) (mass p (mass_in xs) z)
  loss_enclosed =
      encloses_outward (full_part p (ends_at items)) (loss_ends p items) 1000000 refl (mass_in xs (full_word p) + z)
      (mass p (mass_in xs) z) (full_part_encloses p order o items xs z e.tail some_mass e.encloses)

  loss_found : (l : Line) → p.line ≡ l
      → IsFoundOf p (mass_in xs) z (loss_or_delay_on l) (found.Ends (loss_ends p items).lo (loss_ends p items).hi)
  loss_found line.Zero is = (
    refl,
    subst (λ l. ContainsRatio (loss_ends p items).lo (loss_ends p items).hi 1000000 (loss_on l p (mass_in xs) z)) (sym is)
        (contains_ratio (loss_ends p items) 1000000 (mass_in xs (full_word p)) (mass p (mass_in xs) z)
        (loss_on line.Zero p (mass_in xs) z) refl refl
        (without_tail (loss_ends p items) 1000000 (mass_in xs (full_word p)) z (mass p (mass_in xs) z)
        (subst (λ l. IsTail l p xs z) is e.tail) loss_enclosed)),
  )
  loss_found line.Infinite is = (
    refl,
    subst (λ l. ContainsRatio (loss_ends p items).lo (loss_ends p items).hi 1000000 (delay_on l p (mass_in xs) z)) (sym is)
        (contains_ratio (loss_ends p items) 1000000 (mass_in xs (full_word p) + z) (mass p (mass_in xs) z)
        (delay_on line.Infinite p (mass_in xs) z) refl refl loss_enclosed),
  )

  queue_contained : p.line ≡ line.Infinite → IsContained p (mass_in xs) z (measure_ends measure.Queue (queue_ends p items))
  queue_contained is =
      let stable = stable_of p a is in (
        refl,
        subst (λ l. ContainsRatio (queue_ends p items).lo (queue_ends p items).hi 1000000 (queue_on l p (mass_in xs) z))
            (sym is)
            (contains_ratio (queue_ends p items) 1000000 (z * all_service p)
            (mass p (mass_in xs) z * (all_service p - all_calls p)) (queue_on line.Infinite p (mass_in xs) z) refl refl
            (queue_of_part (tail_part p (ends_at items)) (all_service p) (all_service p - all_calls p) z
            (mass p (mass_in xs) z) (omega arith) (tail_part_encloses p order o items xs z e.tail some_mass e.encloses))),
      )

  wait_contained : p.line ≡ line.Infinite → IsContained p (mass_in xs) z (measure_ends measure.Wait (wait_ends p items))
  wait_contained is =
      let stable = stable_of p a is in (
        refl,
        subst (λ l. ContainsRatio (wait_ends p items).lo (wait_ends p items).hi 1000 (wait_on l p (mass_in xs) z)) (sym is)
            (contains_ratio (wait_ends p items) 1000 (p.period * z * all_service p)
            (mass p (mass_in xs) z * (all_service p - all_calls p) * all_calls p) (wait_on line.Infinite p (mass_in xs) z)
            refl refl
            (wait_of_part (tail_part p (ends_at items)) p.period (all_service p) (all_service p - all_calls p) (all_calls p) z
            (mass p (mass_in xs) z) (omega arith) a.atoms.calls.low (tail_part_encloses p order o items xs z e.tail some_mass e.encloses))),
      )

  pub line_contained : (l : Line) → p.line ≡ l → AreContained p (mass_in xs) z (line_measures l p items)
  line_contained line.Zero is =
      All-cons (IsContained p (mass_in xs) z) (measure_ends measure.Loss (loss_ends p items)) [] (loss_found line.Zero is)
      (All-nil (IsContained p (mass_in xs) z))
  line_contained line.Infinite is =
      let IsIn = IsContained p (mass_in xs) z in
      let wait = measure_ends measure.Wait (wait_ends p items) in
      let queue = measure_ends measure.Queue (queue_ends p items) in
      All-cons IsIn (measure_ends measure.Delay (loss_ends p items)) (queue ∷ wait ∷ []) (loss_found line.Infinite is)
      (All-cons IsIn queue (wait ∷ []) (queue_contained is) (All-cons IsIn wait [] (wait_contained is) (All-nil IsIn)))

  pub workload_contained : (n : ℕ) → n < units p → IsContained p (mass_in xs) z (workload_of p order items n)
  workload_contained n l = (
    refl,
    contains_ratio (workload_ends p order items n) 1000000 (busy_mass p (mass_in xs) z n) (mass p (mass_in xs) z)
        (record { numerator = busy_mass p (mass_in xs) z n; denominator = mass p (mass_in xs) z }) refl refl
        (encloses_outward (busy_part p order (ends_at items) n) (workload_ends p order items n) 1000000 refl
        (busy_mass p (mass_in xs) z n) (mass p (mass_in xs) z) (busy_part_encloses p order o items xs z e.tail some_mass e.encloses n l)),
  )

  pub loads_contain_masses : AreContained p (mass_in xs) z (loads_of p order items)
  loads_contain_masses =
      All-append (IsContained p (mass_in xs) z) (line_measures p.line p items) (workloads_of p order items)
      (line_contained p.line refl)
      (all_range (IsContained p (mass_in xs) z) (workload_of p order items) (units p) workload_contained)

-- and so of every solution
pub loads_contained : (p : PlanParts) → IsAccepted p → (order : WordOrder) → IsOrderOf p order → (items : List Ends)
    (xs : List ℕ) (z : ℕ) → EnclosesSolution p order items xs z → AreContained p (mass_in xs) z (loads_of p order items)
loads_contained p a order o items xs z e =
    loads_contain_masses p a order o items xs z (masses_enclosed p a order items xs z e)

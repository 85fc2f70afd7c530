-- All measures of a plan with the ends of the method: how many there are, that every solution lies in them, and that they are
-- one list.
use Rattle.std.proofs.Common.{◌≡◌, ℕ, ◌+◌, ◌-◌, ◌*◌, ◌≤◌, List, length, map, All, sym, ap, subst, ◌∙◌, arith, length-append}
use Rattle.std.specs.List.{range_with_len}
use Rattle.std.proofs.lemmas.List.FromFn.{length-map-range_with_len}
use Rattle.std.proofs.lemmas.Nat.{mul-le}
use Rattle.fixed_interval.specs.Ends.{Ends}
use Rattle.fixed_interval.specs.WeightList.{ends_at}
use Rattle.hyper_model.specs.declared.TheConstants.{MOST_UNITS, MOST_ATOMS}
use Rattle.hyper_model.specs.declared.kinds.Line.{Line}
use Rattle.hyper_model.specs.declared.kinds.Line.TheVariants as line
use Rattle.hyper_model.specs.declared.kinds.Enclosed.{Enclosed}
use Rattle.hyper_model.specs.declared.parts.PlanParts.{PlanParts}
use Rattle.hyper_model.specs.Measures.{ContainsSolutions, IsInRange}
use Rattle.hyper_model.specs.Plans.{units, atoms, all_calls, all_service, IsAccepted}
use Rattle.hyper_model.specs.Words.{words}
use Rattle.hyper_model.proofs.Ranges.{table_length}
use Rattle.busy_words.specs.Order.{WordOrder}
use Rattle.busy_words.proofs.Ordering.{one_order}
use Rattle.back_solve.proofs.WeightLists.{are_determined, pushed-one}
use Rattle.queue_tail.specs.Tail.{GainsTail, tail_weight}
use Rattle.workload_measures.specs.LoadEnds.{workload_of, workloads_of}
use Rattle.dispatch_fractions.specs.PartLists.{PartList}
use Rattle.dispatch_fractions.specs.Fractions.{district_share, fraction_of, fractions_of, interdistrict_of, unit_share}
use Rattle.travel_measures.specs.TravelEnds.{atom_time, atom_times_of, district_time, district_times_of, unit_time, unit_times_of}
use Rattle.plan_solver.specs.PlanWeights.{ArePlanWeights, AreWeightsOn, last_entries}
use Rattle.plan_solver.specs.Enclosures.{IsEnclosureOf, measures_of}
use Rattle.plan_solver.proofs.SoundMeasures.{enclosure_sound, measures_in_range, sound_contains}

-- a list that was read has room if the list that it is has
pub read_fits : (items list : List Enclosed) (most : ℕ) → items ≡ list → length list ≤ most → length items ≤ most
read_fits items list most is fits = rw is fits

-- how many there are of each kind
pub workloads_fit : (p : PlanParts) → IsAccepted p → (order : WordOrder) (items : List Ends)
    → length (workloads_of p order items) ≤ MOST_UNITS
workloads_fit p a order items =
    omega (arith, length-map-range_with_len (workload_of p order items) 0 (units p), a.units.number.high)

pub fractions_fit : (p : PlanParts) → IsAccepted p → (parts : PartList) → length (fractions_of p parts) ≤ MOST_UNITS * MOST_ATOMS
fractions_fit p a parts =
    omega (
      arith,
      table_length (fraction_of p parts) (atoms p) (units p),
      mul-le (units p) (atoms p) MOST_UNITS MOST_ATOMS a.units.number.high a.atoms.number.high,
    )

pub shares_fit : (p : PlanParts) → IsAccepted p → (parts : PartList) → length (interdistrict_of p parts) ≤ 1 + 2 * MOST_UNITS
shares_fit p a parts =
    omega (
      arith,
      length-append (map (unit_share p parts) (range_with_len 0 (units p)))
          (map (district_share p parts) (range_with_len 0 (units p))),
      length-map-range_with_len (unit_share p parts) 0 (units p),
      length-map-range_with_len (district_share p parts) 0 (units p),
      a.units.number.high,
    )

pub atom_times_fit : (p : PlanParts) → IsAccepted p → (parts : PartList) → length (atom_times_of p parts) ≤ MOST_ATOMS
atom_times_fit p a parts = omega (arith, length-map-range_with_len (atom_time p parts) 0 (atoms p), a.atoms.number.high)

pub unit_times_fit : (p : PlanParts) → IsAccepted p → (parts : PartList) → length (unit_times_of p parts) ≤ MOST_UNITS
unit_times_fit p a parts = omega (arith, length-map-range_with_len (unit_time p parts) 0 (units p), a.units.number.high)

pub district_times_fit : (p : PlanParts) → IsAccepted p → (parts : PartList) → length (district_times_of p parts) ≤ MOST_UNITS
district_times_fit p a parts =
    omega (arith, length-map-range_with_len (district_time p parts) 0 (units p), a.units.number.high)

pub enclosure_is : (p : PlanParts) (order : WordOrder) (items : List Ends) → ArePlanWeights p order items
    → (found : List Enclosed) → found ≡ measures_of p order items → IsEnclosureOf p found
enclosure_is p order items w found is = record { order = order; items = items; weights = w; exact = is }

pub enclosure_contains : (p : PlanParts) → IsAccepted p → (found : List Enclosed) → IsEnclosureOf p found → ContainsSolutions p found
enclosure_contains p a found is = sound_contains p a found (enclosure_sound p a found is)

pub enclosure_in_range : (p : PlanParts) (found : List Enclosed) → IsEnclosureOf p found
    → All (λ e. IsInRange p e.measure) found
enclosure_in_range p found is = subst (All (λ e. IsInRange p e.measure)) (sym is.exact) (measures_in_range p is.order is.items)

-- a plan has one list of weights, and one list of measures
one_weights : (l : Line) (p : PlanParts) (order : WordOrder) (items others : List Ends) → AreWeightsOn l p order items
    → AreWeightsOn l p order others → others ≡ items
one_weights line.Zero p order items others are again = are_determined (words p) (last_entries p order) others items again are
one_weights line.Infinite p order items others are again =
    let before : again.0 ≡ are.0 = are_determined (words p) (last_entries p order) again.0 are.0 again.1 are.1 in
    let gains : GainsTail (all_calls p) (all_service p) are.0 others =
    subst (λ b. GainsTail (all_calls p) (all_service p) b others) before again.2 in
    pushed-one are.0 others items (tail_weight (all_calls p) (all_service p) (ends_at are.0 (length are.0 - 1))) gains are.2

pub one_weighing : (p : PlanParts) (order other : WordOrder) (items others : List Ends) → ArePlanWeights p order items
    → ArePlanWeights p other others → (other ≡ order) × (others ≡ items)
one_weighing p order other items others are again =
    let same : other ≡ order = one_order p order other are.ordered again.ordered in (
      same,
      one_weights p.line p order items others are.weights
          (subst (λ o. AreWeightsOn p.line p o others) same again.weights),
    )

pub one_enclosure : (p : PlanParts) (found others : List Enclosed) → IsEnclosureOf p found → IsEnclosureOf p others
    → others ≡ found
one_enclosure p found others is again =
    let same = one_weighing p is.order again.order is.items again.items is.weights again.weights in
    again.exact ∙ ap (λ o. measures_of p o again.items) same.0 ∙ ap (measures_of p is.order) same.1 ∙ sym is.exact

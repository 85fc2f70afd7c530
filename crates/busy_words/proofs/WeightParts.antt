-- What the parts of a plan's weights enclose, for every solution that the weights enclose.
use Rattle.std.proofs.Common.{◌≡◌, ℕ, ◌+◌, ◌*◌, ◌^◌, ◌<◌, cond, List, length, slice_index, subst}
use Rattle.hyper_model.specs.declared.parts.PlanParts.{PlanParts}
use Rattle.hyper_model.specs.Sums.{sum_below}
use Rattle.hyper_model.specs.Plans.{units, split, IsAccepted}
use Rattle.hyper_model.specs.Words.{words, full_word, is_busy}
use Rattle.hyper_model.specs.Solutions.{mass_in}
use Rattle.hyper_model.specs.Measures.{mass, base, taken_mass}
use Rattle.hyper_model.proofs.Masses.{mass_positive, base_positive}
use Rattle.fixed_interval.specs.Ends.{Ends, Encloses}
use Rattle.fixed_interval.specs.WeightList.{ends_at}
use Rattle.fixed_interval.proofs.Scaled.{Holds}
use Rattle.busy_words.specs.Order.{WordOrder, IsInOrder}
use Rattle.busy_words.specs.WeightParts.{places, IsOrderOf, masses_by_place, EnclosesMasses, EnclosesSolution, busy_part, full_part, tail_part, taken_part}
use Rattle.busy_words.proofs.MassParts as of_masses

-- an order of so many units as the plan has
pub order_fits : (p : PlanParts) (order : WordOrder) → order.units ≡ units p → IsInOrder order.units order.words
    → IsOrderOf p order
order_fits p order same ordered = record {
  same_units = same;
  ordered = subst (λ n. IsInOrder n order.words) same ordered;
}

-- the masses of a solution are masses of which some are of states in which a call is answered
pub masses_enclosed : (p : PlanParts) → IsAccepted p → (order : WordOrder) (items : List Ends) (xs : List ℕ) (z : ℕ)
    → EnclosesSolution p order items xs z → EnclosesMasses p order items xs z
masses_enclosed p a order items xs z e = record {
  tail = e.solves.tail;
  some = base_positive p a xs z e.solves;
  encloses = e.encloses;
}

module _ (p : PlanParts) (order : WordOrder) (o : IsOrderOf p order) (items : List Ends) (xs : List ℕ) (z : ℕ)
    (e : EnclosesSolution p order items xs z) where
  -- a weight for each place
  pub weights_one_each : length items ≡ places p
  weights_one_each =
      of_masses.weights_one_each p order o items xs z e.solves.tail (mass_positive p xs z e.solves) e.encloses

  pub weights_hold : Holds (places p) (ends_at items) (slice_index (masses_by_place p order xs z))
  weights_hold = of_masses.weights_hold p order o items xs z e.solves.tail (mass_positive p xs z e.solves) e.encloses

  pub busy_part_encloses : (n : ℕ) → n < units p
      → Encloses (busy_part p order (ends_at items) n)
      (2 ^ 62 * (sum_below (words p) (λ w. cond (is_busy w n) (mass_in xs w) 0) + z)) (mass p (mass_in xs) z)
  busy_part_encloses =
      of_masses.busy_part_encloses p order o items xs z e.solves.tail (mass_positive p xs z e.solves) e.encloses

  pub full_part_encloses : Encloses (full_part p (ends_at items)) (2 ^ 62 * (mass_in xs (full_word p) + z))
      (mass p (mass_in xs) z)
  full_part_encloses =
      of_masses.full_part_encloses p order o items xs z e.solves.tail (mass_positive p xs z e.solves) e.encloses

  pub tail_part_encloses : Encloses (tail_part p (ends_at items)) (2 ^ 62 * z) (mass p (mass_in xs) z)
  tail_part_encloses =
      of_masses.tail_part_encloses p order o items xs z e.solves.tail (mass_positive p xs z e.solves) e.encloses

  pub taken_part_encloses : IsAccepted p → (n j : ℕ) → n < units p
      → Encloses (taken_part p order (ends_at items) n j) (2 ^ 62 * taken_mass p (mass_in xs) n j)
      (split p * base p (mass_in xs) z)
  taken_part_encloses a =
      of_masses.taken_part_encloses p order o items xs z e.solves.tail (mass_positive p xs z e.solves) e.encloses
      (base_positive p a xs z e.solves)

-- The measures that weights give contain every solution that the weights enclose, by whichever method these were found.
use Rattle.std.proofs.Common.{◌≡◌, ℕ, List, ◌++◌, length, All, inl, inr, refl, sym, subst, ◌∙◌}
use Rattle.std.proofs.lemmas.List.Elements.{All-append}
use Rattle.fixed_interval.specs.Ends.{Ends}
use Rattle.fixed_interval.specs.WeightList.{ends_at}
use Rattle.hyper_model.specs.declared.kinds.Enclosed.{Enclosed}
use Rattle.hyper_model.specs.declared.kinds.Method.{Method}
use Rattle.hyper_model.specs.declared.kinds.Method.TheVariants as method
use Rattle.hyper_model.specs.declared.parts.PlanParts.{PlanParts}
use Rattle.hyper_model.specs.Measures.{AreContained, ContainsSolutions, IsContained, IsInRange}
use Rattle.hyper_model.specs.Plans.{IsAccepted}
use Rattle.hyper_model.specs.Solutions.{mass_in}
use Rattle.hyper_model.proofs.PlanLaws.{has_solution}
use Rattle.busy_words.specs.Order.{WordOrder}
use Rattle.busy_words.specs.WeightParts.{EnclosesSolution, IsOrderOf, places}
use Rattle.busy_words.proofs.Places.{one_each_place}
use Rattle.workload_measures.specs.LoadEnds.{loads_of}
use Rattle.workload_measures.proofs.Contain.{loads_contained, loads_in_range}
use Rattle.dispatch_fractions.specs.PartLists.{PartList, parts_from}
use Rattle.dispatch_fractions.specs.Fractions.{fractions_of, interdistrict_of}
use Rattle.dispatch_fractions.proofs.Contain.{dispatches_contained, dispatches_in_range}
use Rattle.dispatch_fractions.proofs.Holding.{has_parts, parts_are}
use Rattle.travel_measures.specs.TravelEnds.{travel_times_of}
use Rattle.travel_measures.proofs.Contain.{times_contained, times_in_range}
use Rattle.word_flows.specs.CertifiedWeights.{AreCertifiedWeights}
use Rattle.word_flows.proofs.Enclosing.{certified_encloses}
use Rattle.plan_solver.specs.Enclosures.{IsEnclosureOf, dispatches_of, measures_of}
use Rattle.plan_solver.specs.SoundEnclosures.{IsCertifiedEnclosure, IsEnclosureBy, IsSoundEnclosure}
use Rattle.plan_solver.proofs.PlanChains.{encloses, one_each}

-- what holds of calls and units, of dispatches and of travel times holds of all
all_measures : (P : Enclosed → Type 0) (p : PlanParts) (order : WordOrder) (items : List Ends)
    → All P (loads_of p order items)
    → ((parts : PartList) → parts ≡ parts_from p order (ends_at items)
    → All P (fractions_of p parts ++ interdistrict_of p parts) × All P (travel_times_of p parts))
    → All P (measures_of p order items)
all_measures P p order items loads rest =
    let parts = parts_from p order (ends_at items) in
    let both = rest parts refl in
    All-append P (loads_of p order items) (dispatches_of p parts) loads
    (All-append P (fractions_of p parts ++ interdistrict_of p parts) (travel_times_of p parts) both.0 both.1)

pub measures_in_range : (p : PlanParts) (order : WordOrder) (items : List Ends)
    → All (λ e. IsInRange p e.measure) (measures_of p order items)
measures_in_range p order items =
    all_measures (λ e. IsInRange p e.measure) p order items (loads_in_range p order items)
    (λ parts is. (dispatches_in_range p parts, times_in_range p parts))

-- a solution that the weights enclose lies in them
measures_contained : (p : PlanParts) → IsAccepted p → (order : WordOrder) → IsOrderOf p order → (items : List Ends) (xs : List ℕ) (z : ℕ)
    → EnclosesSolution p order items xs z → AreContained p (mass_in xs) z (measures_of p order items)
measures_contained p a order o items xs z enclosing =
    all_measures (IsContained p (mass_in xs) z) p order items (loads_contained p a order o items xs z enclosing)
    (λ parts is.
    let having = has_parts p a order o items xs z enclosing parts
    (rw is (parts_are p order (ends_at items))) in
    (dispatches_contained p parts xs z having, times_contained p parts xs z having))

pub sound_contains : (p : PlanParts) → IsAccepted p → (found : List Enclosed) → IsSoundEnclosure p found → ContainsSolutions p found
sound_contains p a found is xs z s =
    subst (AreContained p (mass_in xs) z) (sym is.exact)
    (measures_contained p a is.order is.ordered is.items xs z (is.encloses xs z s))

pub sound_in_range : (p : PlanParts) (found : List Enclosed) → IsSoundEnclosure p found → All (λ e. IsInRange p e.measure) found
sound_in_range p found is = subst (All (λ e. IsInRange p e.measure)) (sym is.exact) (measures_in_range p is.order is.items)

-- what each method finds is sound
pub enclosure_sound : (p : PlanParts) → IsAccepted p → (found : List Enclosed) → IsEnclosureOf p found → IsSoundEnclosure p found
enclosure_sound p a found is = record {
  order = is.order;
  items = is.items;
  ordered = is.weights.ordered;
  one_each = one_each p a is.order is.weights.ordered is.items is.weights.weights;
  encloses = λ xs z s. encloses p a is.order is.weights.ordered xs z s is.items is.weights.weights;
  exact = is.exact;
}

-- weights that enclose a solution are one for each place
pub certified_each : (p : PlanParts) → IsAccepted p → (order : WordOrder) (items : List Ends) → AreCertifiedWeights p order items
    → length items ≡ places p
certified_each p a order items w =
    let s = has_solution p a in
    (certified_encloses p a order items w s.masses s.waiting s.solves).encloses.same_length
    ∙ one_each_place p order w.ordered s.masses s.waiting

pub certified_is : (p : PlanParts) (order : WordOrder) (items : List Ends) → AreCertifiedWeights p order items
    → (found : List Enclosed) → found ≡ measures_of p order items → IsCertifiedEnclosure p found
certified_is p order items w found is = record { order = order; items = items; weights = w; exact = is }

pub certified_sound : (p : PlanParts) → IsAccepted p → (found : List Enclosed) → IsCertifiedEnclosure p found → IsSoundEnclosure p found
certified_sound p a found is = record {
  order = is.order;
  items = is.items;
  ordered = is.weights.ordered;
  one_each = certified_each p a is.order is.items is.weights;
  encloses = certified_encloses p a is.order is.items is.weights;
  exact = is.exact;
}

pub sound_by : (m : Method) (p : PlanParts) → IsAccepted p → (found : List Enclosed) → IsEnclosureBy m p found → IsSoundEnclosure p found
sound_by method.Elimination p a found is = enclosure_sound p a found is
sound_by method.Certificate p a found (inl is) = certified_sound p a found is
sound_by method.Certificate p a found (inr is) = enclosure_sound p a found is

-- The list of all measures of a plan with waiting places: they are of the plan's units, each contains its value for every
-- solution, and there is one list.
use Rattle.std.proofs.Common.{◌≡◌, ℕ, ◌≤◌, List, All, sym, ap, subst, ◌∙◌}
use Rattle.fixed_interval.specs.Ends.{Ends}
use Rattle.hyper_model.specs.declared.kinds.Line.TheVariants as line
use Rattle.hyper_model.specs.declared.parts.PlanParts.{PlanParts}
use Rattle.hyper_model.specs.Plans.{units, all_calls, all_service, IsAccepted}
use Rattle.hyper_model.specs.Solutions.{mass_in}
use Rattle.busy_words.specs.Order.{WordOrder}
use Rattle.plan_solver.proofs.AllMeasures.{one_weighing}
use Rattle.finite_line.specs.declared.kinds.FiniteEnds.{FiniteEnds}
use Rattle.finite_line.specs.FiniteMeasures.{ContainsFiniteSolutions, IsFiniteContained, IsFiniteInRange}
use Rattle.finite_line.specs.FiniteSolutions.{queue_mass}
use Rattle.finite_line.specs.FiniteWeights.{AreFiniteWeights, GainsQueue}
use Rattle.finite_line.specs.PrintedEnds.{IsFiniteEnclosureOf, finite_items}
use Rattle.finite_line.proofs.Contain.{items_contained}
use Rattle.finite_line.proofs.Items.{all_items}
use Rattle.finite_line.proofs.QueueWeights.{one_queue}

pub finite_enclosure_is : (p : PlanParts) (room : ℕ) (order : WordOrder) (items : List Ends) → AreFiniteWeights p room order items
    → (found : List FiniteEnds) → found ≡ finite_items p room order items → IsFiniteEnclosureOf p room found
finite_enclosure_is p room order items w found is = record { order = order; items = items; weights = w; exact = is }

pub finite_in_range : (p : PlanParts) (room : ℕ) (found : List FiniteEnds) → IsFiniteEnclosureOf p room found
    → All (λ e. IsFiniteInRange (units p) e.measure) found
finite_in_range p room found is =
    subst (All (λ e. IsFiniteInRange (units p) e.measure)) (sym is.exact)
    (all_items p room is.order is.items (λ e. IsFiniteInRange (units p) e.measure) (λ m h. h))

pub finite_contains : (p : PlanParts) → IsAccepted p → p.line ≡ line.Zero → (room : ℕ) → 1 ≤ room
    → (found : List FiniteEnds) → IsFiniteEnclosureOf p room found → ContainsFiniteSolutions p room found
finite_contains p a zero_line room some found is xs qs s =
    subst (All (IsFiniteContained p room (mass_in xs) (queue_mass p xs qs))) (sym is.exact)
    (items_contained p a zero_line room some is.order is.items is.weights xs qs s)

pub one_finite_enclosure : (p : PlanParts) (room : ℕ) (found others : List FiniteEnds) → IsFiniteEnclosureOf p room found
    → IsFiniteEnclosureOf p room others → others ≡ found
one_finite_enclosure p room found others is again =
    let same =
    one_weighing p is.order again.order is.weights.words again.weights.words is.weights.solved again.weights.solved in
    let queue : GainsQueue (all_calls p) (all_service p) room is.weights.words again.items =
    subst (λ words. GainsQueue (all_calls p) (all_service p) room words again.items) same.1 again.weights.queue in
    again.exact
    ∙ ap (λ o. finite_items p room o again.items) same.0
    ∙ ap (finite_items p room is.order)
    (one_queue (all_calls p) (all_service p) room is.weights.words is.items again.items is.weights.queue queue)
    ∙ sym is.exact

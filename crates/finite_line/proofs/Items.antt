-- What holds of the item of each measure holds of all items.
use Rattle.std.proofs.Common.{ℕ, List, ◌∷◌, All}
use Rattle.std.proofs.lemmas.List.Elements.{All-cons}
use Rattle.fixed_interval.specs.Ends.{Ends}
use Rattle.hyper_model.specs.declared.parts.PlanParts.{PlanParts}
use Rattle.hyper_model.specs.Plans.{units}
use Rattle.hyper_model.proofs.Ranges.{all_range}
use Rattle.busy_words.specs.Order.{WordOrder}
use Rattle.finite_line.specs.declared.kinds.FiniteMeasure.{FiniteMeasure}
use Rattle.finite_line.specs.declared.kinds.FiniteMeasure.TheVariants as measure
use Rattle.finite_line.specs.declared.kinds.FiniteEnds.{FiniteEnds}
use Rattle.finite_line.specs.FiniteMeasures.{IsFiniteInRange}
use Rattle.finite_line.specs.PrintedEnds.{finite_items, item_of, workload_items}

pub all_items : (p : PlanParts) (room : ℕ) (order : WordOrder) (items : List Ends) (P : FiniteEnds → Type 0)
    → ((m : FiniteMeasure) → IsFiniteInRange (units p) m → P (item_of p room order items m))
    → All P (finite_items p room order items)
all_items p room order items P each =
    let item = item_of p room order items in
    let units_all = workload_items p room order items in
    All-cons P (item measure.Lost) (item measure.Delayed ∷ item measure.Busy ∷ item measure.Queue ∷ item measure.Wait ∷ units_all)
    (each measure.Lost tt)
    (All-cons P (item measure.Delayed) (item measure.Busy ∷ item measure.Queue ∷ item measure.Wait ∷ units_all)
    (each measure.Delayed tt)
    (All-cons P (item measure.Busy) (item measure.Queue ∷ item measure.Wait ∷ units_all) (each measure.Busy tt)
    (All-cons P (item measure.Queue) (item measure.Wait ∷ units_all) (each measure.Queue tt)
    (All-cons P (item measure.Wait) units_all (each measure.Wait tt)
    (all_range P (λ n. item (measure.Workload n)) (units p) (λ n l. each (measure.Workload n) l))))))

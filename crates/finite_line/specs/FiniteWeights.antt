-- The weights of a plan with waiting places: those of its words, and after them those of the states in which 1 call waits,
-- 2 calls, and so on.
use Rattle.std.specs.Prelude.{◌≡◌, ℕ, zero, suc, List}
use Rattle.fixed_interval.specs.Ends.{Ends}
use Rattle.hyper_model.specs.declared.parts.PlanParts.{PlanParts}
use Rattle.hyper_model.specs.Plans.{all_calls, all_service}
use Rattle.busy_words.specs.Order.{WordOrder}
use Rattle.queue_tail.specs.Tail.{GainsMultiple}
use Rattle.plan_solver.specs.PlanWeights.{ArePlanWeights}

-- each state of one more waiting call has calls / service times the weight of the state before it
abbrev pub GainsQueue : ℕ → ℕ → ℕ → List Ends → List Ends → Type 0
GainsQueue calls service zero words items = items ≡ words
GainsQueue calls service (suc k) words items =
    (before : List Ends) × GainsQueue calls service k words before × GainsMultiple calls service before items

pub record AreFiniteWeights (p : PlanParts) (room : ℕ) (order : WordOrder) (items : List Ends) : Type 0 where
  pub words : List Ends
  pub solved : ArePlanWeights p order words
  pub queue : GainsQueue (all_calls p) (all_service p) room words items

-- The weights of a plan that can have waiting places: how many there are, and how they are made.
use Rattle.std.proofs.Common.{◌≡◌, ℕ, ◌+◌, ◌^◌, ◌≤◌, List, length, ap, subst, ◌∙◌, arith}
use Rattle.std.proofs.Math.Pow.{pow_mono}
use Rattle.fixed_interval.specs.Ends.{Ends}
use Rattle.hyper_model.specs.declared.parts.PlanParts.{PlanParts}
use Rattle.hyper_model.specs.Plans.{units, all_calls, all_service, IsAccepted}
use Rattle.hyper_model.specs.Words.{words}
use Rattle.busy_words.specs.Order.{WordOrder}
use Rattle.busy_words.specs.WeightParts.{places_on}
use Rattle.plan_solver.specs.PlanWeights.{ArePlanWeights}
use Rattle.plan_solver.proofs.PlanChains.{one_each}
use Rattle.finite_line.specs.FiniteWeights.{AreFiniteWeights, GainsQueue}
use Rattle.finite_line.specs.Refusals.{IsFinitePlan}
use Rattle.finite_line.proofs.QueueWeights.{queue_count}

-- up to 11 units have up to 2048 words
pub few_words : (p : PlanParts) → IsFinitePlan p → words p ≤ 2048
few_words p f =
    let few : units p ≤ 11 = omega (arith, f.few_units) in
    let most : 2 ^ units p ≤ 2 ^ 11 = pow_mono few in
    omega (arith, most)

pub one_each_word : (p : PlanParts) → IsAccepted p → IsFinitePlan p → (order : WordOrder) (items : List Ends)
    → ArePlanWeights p order items → length items ≡ words p
one_each_word p a f order items w = one_each p a order w.ordered items w.weights ∙ ap (λ l. places_on l p) f.zero_line

pub one_each_state : (p : PlanParts) → IsAccepted p → IsFinitePlan p → (room : ℕ) (order : WordOrder) (items : List Ends)
    → AreFiniteWeights p room order items → length items ≡ words p + room
one_each_state p a f room order items w =
    omega (
      arith,
      queue_count (all_calls p) (all_service p) room w.words items w.queue,
      one_each_word p a f order w.words w.solved,
    )

pub finite_weights_are : (p : PlanParts) (room calls service : ℕ) (order : WordOrder) (words copied items : List Ends)
    → ArePlanWeights p order words → copied ≡ words → calls ≡ all_calls p → service ≡ all_service p
    → GainsQueue calls service room copied items → AreFiniteWeights p room order items
finite_weights_are p room calls service order words copied items w same_words same_calls same_service gains = record {
  words = words;
  solved = w;
  queue = subst (λ c. GainsQueue c (all_service p) room words items) same_calls
      (subst (λ m. GainsQueue calls m room words items) same_service
      (subst (λ l. GainsQueue calls service room l items) same_words gains));
}

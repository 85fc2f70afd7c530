-- What contracts see of a solver: the chain of a plan's words, before any of it is eliminated.
use Rattle.std.specs.Prelude.{◌≡◌, ℕ, ◌+◌, ◌≤◌, true, List, []}
use Rattle.fixed_interval.specs.Ends.{Ends}
use Rattle.fixed_interval.specs.WeightList.{WeightList}
use Rattle.hyper_model.specs.declared.kinds.Line.{Line}
use Rattle.hyper_model.specs.declared.kinds.Line.TheVariants as line
use Rattle.hyper_model.specs.declared.parts.PlanParts.{PlanParts}
use Rattle.hyper_model.specs.Plans.{all_calls, all_service, IsAccepted, IsStable}
use Rattle.hyper_model.specs.Solutions.{IsSolution}
use Rattle.hyper_model.specs.Words.{words}
use Rattle.busy_words.specs.Order.{WordOrder}
use Rattle.busy_words.specs.WeightParts.{EnclosesSolution, IsOrderOf}
use Rattle.rate_matrix.specs.Bands.{BandedRates, IsMatrixOf, entry}
use Rattle.rate_matrix.specs.Weights.{AreWeightsOf}
use Rattle.rate_matrix.specs.WordChains.{word_rates, word_top}
use Rattle.queue_tail.specs.Tail.{GainsTail}
use Rattle.plan_solver.specs.PlanWeights.{ArePlanWeights}

-- the order of the words, the rates between them, and what the tail follows from
pub record SolverParts : Type 0 where
  pub order : WordOrder
  pub matrix : BandedRates
  pub line : Line
  pub calls : ℕ
  pub service : ℕ

-- the plan has this line and these rates, as the one has for which the solver was made
pub record IsSolverOf (p : PlanParts) (s : SolverParts) : Type 0 where
  pub accepted : IsAccepted p
  pub ordered : IsOrderOf p s.order
  pub rates : IsMatrixOf (words p) (word_rates p s.order) (word_top p) s.matrix
  pub line : s.line ≡ p.line
  pub calls : s.calls ≡ all_calls p
  pub service : s.service ≡ all_service p

-- these are the weights of each plan that the solver is of
abbrev pub AreSolverWeights : SolverParts → WordOrder → List Ends → Type 0
AreSolverWeights s order items = (p : PlanParts) → IsSolverOf p s → ArePlanWeights p order items

-- and they enclose every solution of it, up to one common factor
abbrev pub EncloseSolutions : SolverParts → WordOrder → List Ends → Type 0
EncloseSolutions s order items =
    (p : PlanParts) → IsSolverOf p s → (xs : List ℕ) (z : ℕ) → IsSolution p xs z → EnclosesSolution p order items xs z

-- no state is eliminated yet, and there is room for all parts and weights
pub record IsReady (s : SolverParts) (row : ℕ) (weights : WeightList) : Type 0 where
  pub packed : s.matrix.packed ≡ true
  pub whole : s.matrix.alive ≡ s.matrix.size
  pub parts : s.matrix.size ≤ row
  pub empty : weights.items ≡ []
  pub room : s.matrix.size + 1 ≤ weights.spare
  pub stable : IsStable s.line s.calls s.service

-- the weights of the states, from the entries that are left, and if calls wait that of the tail
abbrev pub AreFilled : Line → ℕ → ℕ → BandedRates → List Ends → Type 0
AreFilled line.Zero calls service m items = AreWeightsOf (entry m) m.size items
AreFilled line.Infinite calls service m items =
    (before : List Ends) × AreWeightsOf (entry m) m.size before × GainsTail calls service before items

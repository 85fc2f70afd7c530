-- The weights of a plan by a certificate: those of its words, and if calls wait one more for all states in which one does.
use Rattle.std.specs.Prelude.{◌≡◌, ℕ, ◌+◌, ◌≤◌, List, [], length, map}
use Rattle.fixed_interval.specs.Ends.{Ends, between, shifted_ends}
use Rattle.fixed_interval.specs.WeightList.{WeightList}
use Rattle.hyper_model.specs.declared.kinds.Line.{Line}
use Rattle.hyper_model.specs.declared.kinds.Line.TheVariants as line
use Rattle.hyper_model.specs.declared.parts.PlanParts.{PlanParts}
use Rattle.hyper_model.specs.Plans.{units, all_calls, all_service}
use Rattle.hyper_model.specs.Tables.{word_table}
use Rattle.hyper_model.specs.Words.{words}
use Rattle.busy_words.specs.Order.{WordOrder}
use Rattle.busy_words.specs.WeightParts.{IsOrderOf}
use Rattle.queue_tail.specs.Tail.{GainsTail}
use Rattle.state_certificate.specs.Certificates.{AreCertified}

-- each word's low and high mass in a unit of 2 ^ 10, rounded outward
abbrev pub weights_between : (ℕ → ℕ) → (ℕ → ℕ) → List ℕ → List Ends
weights_between low high list = map (λ word. shifted_ends 10 (between (low word) (high word))) list

-- the weights of the words, in their order, from masses that have a certificate
pub record AreWordWeights (p : PlanParts) (order : WordOrder) (items : List Ends) : Type 0 where
  pub low : ℕ → ℕ
  pub high : ℕ → ℕ
  pub certified : AreCertified (words p) (word_table p) low high
  pub weights : items ≡ weights_between low high order.words

-- after them comes that of the tail, if calls wait
abbrev pub GainsWaiting : Line → PlanParts → List Ends → List Ends → Type 0
GainsWaiting line.Zero p old new = new ≡ old
GainsWaiting line.Infinite p old new = GainsTail (all_calls p) (all_service p) old new

-- the weights of a plan in the order of its words, which have a certificate
pub record AreCertifiedWeights (p : PlanParts) (order : WordOrder) (items : List Ends) : Type 0 where
  pub ordered : IsOrderOf p order
  pub before : List Ends
  pub words : AreWordWeights p order before
  pub waiting : GainsWaiting p.line p before items

-- an order of the words, and room for what solving the plan takes
pub record IsReady (p : PlanParts) (order : WordOrder) (masses room low high : List ℕ) (weights : WeightList) : Type 0 where
  pub ordered : IsOrderOf p order
  pub one_each : length masses ≡ words p
  pub room_each : length room ≡ words p
  pub low_each : length low ≡ words p
  pub high_each : length high ≡ words p
  pub empty : weights.items ≡ []
  pub spare : words p + 1 ≤ weights.spare

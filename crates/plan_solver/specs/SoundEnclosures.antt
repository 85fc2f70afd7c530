-- The measures of a plan with ends that contain every solution, by whichever method its weights were found.
use Rattle.std.specs.Prelude.{◌≡◌, ◌⊎◌, ℕ, List, length}
use Rattle.std.specs.List.{AllZip}
use Rattle.fixed_interval.specs.Ends.{Ends}
use Rattle.hyper_model.specs.Enclosures.{EnclosureList}
use Rattle.hyper_model.specs.Solutions.{IsSolution}
use Rattle.hyper_model.specs.declared.kinds.Enclosed.{Enclosed}
use Rattle.hyper_model.specs.declared.kinds.Method.{Method}
use Rattle.hyper_model.specs.declared.kinds.Method.TheVariants as method
use Rattle.hyper_model.specs.declared.parts.PlanParts.{PlanParts}
use Rattle.busy_words.specs.Order.{WordOrder}
use Rattle.busy_words.specs.WeightParts.{EnclosesSolution, IsOrderOf, places}
use Rattle.word_flows.specs.CertifiedWeights.{AreCertifiedWeights}
use Rattle.plan_solver.specs.Enclosures.{IsEnclosureOf, measures_of}

-- the list has the plan's measures, with the ends that some weights give, one for each place, which enclose every solution of
-- the plan up to one common factor
pub record IsSoundEnclosure (p : PlanParts) (found : List Enclosed) : Type 0 where
  pub order : WordOrder
  pub items : List Ends
  pub ordered : IsOrderOf p order
  pub one_each : length items ≡ places p
  pub encloses : (xs : List ℕ) (z : ℕ) → IsSolution p xs z → EnclosesSolution p order items xs z
  pub exact : found ≡ measures_of p order items

-- the list has the plan's measures, with the ends that weights give which have a certificate
pub record IsCertifiedEnclosure (p : PlanParts) (found : List Enclosed) : Type 0 where
  pub order : WordOrder
  pub items : List Ends
  pub weights : AreCertifiedWeights p order items
  pub exact : found ≡ measures_of p order items

-- the list is what the method finds: a plan for which no certificate is found is answered by elimination
abbrev pub IsEnclosureBy : Method → PlanParts → List Enclosed → Type 0
IsEnclosureBy method.Elimination p found = IsEnclosureOf p found
IsEnclosureBy method.Certificate p found = IsCertifiedEnclosure p found ⊎ IsEnclosureOf p found

-- for each plan, in order, a list of its measures by the method
abbrev pub AreEnclosuresBy : Method → List PlanParts → List EnclosureList → Type 0
AreEnclosuresBy method plans found = AllZip (λ p list. IsEnclosureBy method p list.items) plans found

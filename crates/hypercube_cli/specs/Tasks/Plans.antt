-- What it means to ask something of the plan in a file.
use Rattle.std.specs.Prelude.{◌≡◌, ℕ, true, List, Some, Result, Ok}
use Rattle.hyper_model.specs.declared.parts.PlanParts.{PlanParts}
use Rattle.hyper_model.specs.Plans.{IsAccepted}
use Rattle.hypercube_cli.specs.Endings.{Ending, EndsFrom}
use Rattle.hypercube_cli.specs.Meanings.{Meaning}
use Rattle.hypercube_cli.specs.Readings.{plan_at}

-- the plan that was read is accepted, and this is proved of it and the text
pub record IsProvedOfPlan (given : Result PlanParts Ending) (proves : PlanParts → List ℕ → Type 0) (text : List ℕ) : Type 0 where
  pub plan : PlanParts
  pub read : given ≡ Ok plan
  pub accepted : IsAccepted plan
  pub proved : proves plan text

-- its endings are those of the plan, or the one that stands in its place
abbrev pub plan_meaning : List ℕ → (PlanParts → Ending → Type 0) → (PlanParts → List ℕ → Type 0) → Meaning
plan_meaning file ends proves = record {
  ends = λ texts. EndsFrom (plan_at texts 1 file) ends;
  proves = λ texts. IsProvedOfPlan (plan_at texts 1 file) proves;
  asks = λ told fault. fault ≡ Some file;
  reads = true;
}

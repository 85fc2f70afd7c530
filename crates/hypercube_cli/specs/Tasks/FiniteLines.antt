-- What it means to report a plan with a limited number of waiting places: its measures, or why it can have no such places.
use Rattle.std.specs.Prelude.{◌⊎◌, ℕ, List}
use Rattle.hyper_model.specs.declared.parts.PlanParts.{PlanParts}
use Rattle.finite_line.specs.FiniteMeasures.{ContainsFiniteSolutions, HavePositiveFiniteDenominators}
use Rattle.finite_line.specs.FiniteSolutions.{HasFiniteSolution}
use Rattle.finite_line.specs.PrintedEnds.{IsFiniteEnclosureOf}
use Rattle.finite_line.specs.Refusals.{IsCauseOf, IsFinitePlan}
use Rattle.finite_line.specs.Rows.{finite_bytes}
use Rattle.hypercube_cli.specs.declared.refusal.Refusal.TheVariants as refused
use Rattle.hypercube_cli.specs.Endings.{Ending, done_ending}
use Rattle.hypercube_cli.specs.ListEndings.{IsEndingOfList, IsEndingOfRefusal, IsTextOfList}
use Rattle.hypercube_cli.specs.Meanings.{Meaning}
use Rattle.hypercube_cli.specs.Tasks.Plans.{plan_meaning}

-- the ending for a plan that can have waiting places, whose measures have the ends of the method
pub record IsReportedFinite (p : PlanParts) (places : ℕ) (ending : Ending) : Type 0 where
  pub possible : IsFinitePlan p
  pub written : IsEndingOfList (IsFiniteEnclosureOf p places) (λ items. done_ending (finite_bytes p places items)) ending

-- and for one that cannot, with its first cause
abbrev pub IsFiniteEnding : PlanParts → ℕ → Ending → Type 0
IsFiniteEnding p places ending = IsEndingOfRefusal (IsCauseOf p) refused.Finite ending ⊎ IsReportedFinite p places ending

-- The text is that of this plan with so many waiting places. Its balance equations with these places have a solution. There
-- is one list of measures with the ends of the method, and for each solution these contain the measures: ratios whose
-- denominators are positive.
pub record IsTrueFinite (p : PlanParts) (places : ℕ) (text : List ℕ) : Type 0 where
  pub possible : IsFinitePlan p
  pub solvable : HasFiniteSolution p places
  pub positive : HavePositiveFiniteDenominators p places
  pub contains : IsTextOfList (IsFiniteEnclosureOf p places) (finite_bytes p places) (ContainsFiniteSolutions p places) text

abbrev pub finite_meaning : List ℕ → ℕ → Meaning
finite_meaning file places = plan_meaning file (λ plan. IsFiniteEnding plan places) (λ plan. IsTrueFinite plan places)

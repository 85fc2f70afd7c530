-- What it means to solve a plan: its report, or the first measure whose ends lie further apart than was asked.
use Rattle.std.specs.Prelude.{◌≡◌, ℕ, Bool, List, Option, Some, None}
use Rattle.hyper_model.specs.declared.kinds.Enclosed.{Enclosed}
use Rattle.hyper_model.specs.declared.kinds.Found.{Found}
use Rattle.hyper_model.specs.declared.kinds.Found.TheVariants as found
use Rattle.hyper_model.specs.declared.kinds.Measure.{Measure}
use Rattle.hyper_model.specs.declared.kinds.Method.{Method}
use Rattle.hyper_model.specs.declared.kinds.Method.TheVariants as method
use Rattle.hyper_model.specs.declared.parts.PlanParts.{PlanParts}
use Rattle.hyper_model.specs.Laws.{HavePositiveDenominators}
use Rattle.hyper_model.specs.Measures.{ContainsSolutions}
use Rattle.hyper_model.specs.Solutions.{HasSolution}
use Rattle.report_text.specs.declared.ending.Widths.{Widths}
use Rattle.report_text.specs.Labels.{label_bytes}
use Rattle.report_text.specs.Reports.{report_bytes}
use Rattle.report_text.specs.TooWide.{first_wide}
use Rattle.plan_solver.specs.Enclosures.{IsEnclosureOf}
use Rattle.plan_solver.specs.SoundEnclosures.{IsEnclosureBy}
use Rattle.hypercube_cli.specs.Endings.{Ending, done_ending, wide_ending}
use Rattle.hypercube_cli.specs.ListEndings.{IsEndingOfList}
use Rattle.hypercube_cli.specs.Meanings.{Meaning}
use Rattle.hypercube_cli.specs.Tasks.Plans.{plan_meaning}

-- a measure without ends is never too wide
abbrev pub wide_found : PlanParts → Measure → Found → Ending → Ending
wide_found p m (found.Ends lo hi) narrow = wide_ending (label_bytes p m) 1 m lo hi
wide_found p m found.Without narrow = narrow

-- the measure that is too wide, or this ending if none is
abbrev pub unless_wide : PlanParts → Option Enclosed → Ending → Ending
unless_wide p None narrow = narrow
unless_wide p (Some e) narrow = wide_found p e.measure e.found narrow

abbrev pub report_ending : PlanParts → Widths → Bool → List Enclosed → Ending
report_ending p widths summary items =
    unless_wide p (first_wide widths summary items) (done_ending (report_bytes p items summary))

-- the ending for a plan, whose measures have the ends of the method
abbrev pub IsReported : PlanParts → Method → Widths → Bool → Ending → Type 0
IsReported p m widths summary = IsEndingOfList (IsEnclosureBy m p) (report_ending p widths summary)

-- The text is the report, or the summary, of this plan. Its balance equations have a solution. The measures have the ends
-- of the method, by elimination in one list only, and for each solution these contain what Larson's formulas give: a ratio
-- whose denominator is positive.
pub record IsTrueReport (p : PlanParts) (m : Method) (summary : Bool) (text : List ℕ) : Type 0 where
  pub solvable : HasSolution p
  pub positive : HavePositiveDenominators p
  pub items : List Enclosed
  pub enclosed : IsEnclosureBy m p items
  pub alone : m ≡ method.Elimination → (others : List Enclosed) → IsEnclosureOf p others → others ≡ items
  pub written : text ≡ report_bytes p items summary
  pub contains : ContainsSolutions p items

abbrev pub solve_meaning : List ℕ → Widths → Bool → Method → Meaning
solve_meaning file widths summary m =
    plan_meaning file (λ plan. IsReported plan m widths summary) (λ plan. IsTrueReport plan m summary)

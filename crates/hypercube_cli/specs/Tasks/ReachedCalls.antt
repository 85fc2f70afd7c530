-- What it means to report the shares of a plan's calls that are reached in time.
use Rattle.std.specs.Prelude.{ℕ, List}
use Rattle.hyper_model.specs.declared.parts.PlanParts.{PlanParts}
use Rattle.hyper_model.specs.Solutions.{HasSolution}
use Rattle.timely_reach.specs.Reach.{ContainsReach}
use Rattle.timely_reach.specs.ReachLaws.{HavePositiveReachDenominators}
use Rattle.timely_reach.specs.ReachRows.{IsReachOf}
use Rattle.timely_reach.specs.Rows.{reach_bytes}
use Rattle.hypercube_cli.specs.Endings.{Ending, done_ending}
use Rattle.hypercube_cli.specs.ListEndings.{IsEndingOfList, IsTextOfList}
use Rattle.hypercube_cli.specs.Meanings.{Meaning}
use Rattle.hypercube_cli.specs.Tasks.Plans.{plan_meaning}

-- the ending for a plan, whose shares have the ends of the method
abbrev pub IsReachReported : PlanParts → List ℕ → Ending → Type 0
IsReachReported p limits = IsEndingOfList (IsReachOf p limits) (λ rows. done_ending (reach_bytes p limits rows))

-- The text is that of this plan and these limits. Its balance equations have a solution. There is one list of shares with
-- the ends of the method, and for each solution these contain the shares: ratios whose denominators are positive.
pub record IsTrueReach (p : PlanParts) (limits text : List ℕ) : Type 0 where
  pub solvable : HasSolution p
  pub positive : HavePositiveReachDenominators p
  pub contains : IsTextOfList (IsReachOf p limits) (reach_bytes p limits) (ContainsReach p limits) text

abbrev pub reach_meaning : List ℕ → List ℕ → Meaning
reach_meaning file limits = plan_meaning file (λ plan. IsReachReported plan limits) (λ plan. IsTrueReach plan limits)

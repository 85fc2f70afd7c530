-- What it means to report a plan whose calls may need two units: its measures, or why its calls may not.
use Rattle.std.specs.Prelude.{◌⊎◌, ℕ, List}
use Rattle.hyper_model.specs.declared.parts.PlanParts.{PlanParts}
use Rattle.pair_dispatch.specs.Acceptance.{IsRefusedFor, MayPair}
use Rattle.pair_dispatch.specs.PairEnds.{IsPairEnclosureOf}
use Rattle.pair_dispatch.specs.PairMeasures.{ContainsSolutions}
use Rattle.pair_dispatch.specs.PairRates.{HasPairSolution}
use Rattle.pair_dispatch.specs.PairTexts.{pair_bytes}
use Rattle.hypercube_cli.specs.declared.refusal.Refusal.TheVariants as refused
use Rattle.hypercube_cli.specs.Endings.{Ending, done_ending}
use Rattle.hypercube_cli.specs.ListEndings.{IsEndingOfList, IsEndingOfRefusal, IsTextOfList}
use Rattle.hypercube_cli.specs.Meanings.{Meaning}
use Rattle.hypercube_cli.specs.Tasks.Plans.{plan_meaning}

-- the ending for a plan whose calls may need two units, whose measures have the ends of the method
pub record IsReportedPairs (p : PlanParts) (percent : ℕ) (ending : Ending) : Type 0 where
  pub possible : MayPair p
  pub written : IsEndingOfList (IsPairEnclosureOf p percent) (λ items. done_ending (pair_bytes p percent items)) ending

-- and for one whose calls may not, with the one reason
abbrev pub IsPairsEnding : PlanParts → ℕ → Ending → Type 0
IsPairsEnding p percent ending = IsEndingOfRefusal (IsRefusedFor p) refused.Pair ending ⊎ IsReportedPairs p percent ending

-- The text is that of this plan, of whose calls so many in a hundred need two units. The balance of its words has a
-- solution. There is one list of measures with the ends of the method, and for each solution these contain the measures:
-- ratios whose denominators are positive.
pub record IsTruePairs (p : PlanParts) (percent : ℕ) (text : List ℕ) : Type 0 where
  pub possible : MayPair p
  pub solvable : HasPairSolution p percent
  pub contains : IsTextOfList (IsPairEnclosureOf p percent) (pair_bytes p percent) (ContainsSolutions p percent) text

abbrev pub pairs_meaning : List ℕ → ℕ → Meaning
pairs_meaning file percent = plan_meaning file (λ plan. IsPairsEnding plan percent) (λ plan. IsTruePairs plan percent)

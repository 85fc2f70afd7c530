-- What it means to try a unit of a plan at each atom: the sites that are kept.
use Rattle.std.specs.Prelude.{◌≡◌, ℕ, ◌<◌, List, Result, Ok}
use Rattle.hyper_model.specs.Laws.{HavePositiveDenominators}
use Rattle.hyper_model.specs.Plans.{IsAccepted, atoms}
use Rattle.hyper_model.specs.Solutions.{HasSolution}
use Rattle.hyper_model.specs.declared.kinds.Measure.{Measure}
use Rattle.hyper_model.specs.declared.parts.PlanParts.{PlanParts}
use Rattle.site_sweep.specs.Finding.{unit_of}
use Rattle.site_sweep.specs.Placed.{placed}
use Rattle.site_sweep.specs.Sites.{AreSitesOf}
use Rattle.site_sweep.specs.Texts.{sweep_bytes}
use Rattle.site_sweep.specs.Truth.{AreBestKept, AreDroppedBeaten, ContainsSites}
use Rattle.site_sweep.specs.declared.site_list.Site.{Site}
use Rattle.hypercube_cli.specs.declared.refusal.Refusal.TheVariants as refused
use Rattle.hypercube_cli.specs.Endings.{Ending, EndsFrom, done_ending}
use Rattle.hypercube_cli.specs.ListEndings.{IsEndingOfList, IsTextOfList}
use Rattle.hypercube_cli.specs.Meanings.{Meaning}
use Rattle.hypercube_cli.specs.Readings.{unless_refused}
use Rattle.hypercube_cli.specs.Tasks.Plans.{plan_meaning}

-- the unit of this name, or the ending that stands in its place
abbrev pub unit_at : PlanParts → List ℕ → Result ℕ Ending
unit_at p name = unless_refused refused.Sweep (unit_of p name)

-- the ending for a unit, whose sites have the ends of the method
abbrev pub IsSwept : PlanParts → ℕ → Measure → Ending → Type 0
IsSwept p n m = IsEndingOfList (AreSitesOf p n m) (λ sites. done_ending (sweep_bytes p n m sites))

-- the ending for a unit of this name
abbrev pub IsSweepEnding : PlanParts → List ℕ → Measure → Ending → Type 0
IsSweepEnding p name m = EndsFrom (unit_at p name) (λ n. IsSwept p n m)

-- Each site's ends contain the measure, in whichever solution. For each site that is dropped one is kept whose measure is
-- strictly less, so each site with the least measure is kept.
pub record AreTrueSites (p : PlanParts) (n : ℕ) (m : Measure) (sites : List Site) : Type 0 where
  pub contains : ContainsSites p n m sites
  pub beaten : AreDroppedBeaten p n m sites
  pub best : AreBestKept p n m sites

-- The text is that of the one list of sites of the unit of this name. With the unit at each atom the plan is accepted, its
-- balance equations have a solution, and in each solution the denominators of the measures are positive.
pub record IsTrueSweep (p : PlanParts) (name : List ℕ) (m : Measure) (text : List ℕ) : Type 0 where
  pub unit : ℕ
  pub named : unit_of p name ≡ Ok unit
  pub accepted : (k : ℕ) → k < atoms p → IsAccepted (placed p unit k)
  pub solvable : (k : ℕ) → k < atoms p → HasSolution (placed p unit k)
  pub positive : (k : ℕ) → k < atoms p → HavePositiveDenominators (placed p unit k)
  pub sites : IsTextOfList (AreSitesOf p unit m) (sweep_bytes p unit m) (AreTrueSites p unit m) text

abbrev pub sweep_meaning : List ℕ → List ℕ → Measure → Meaning
sweep_meaning file name m = plan_meaning file (λ plan. IsSweepEnding plan name m) (λ plan. IsTrueSweep plan name m)

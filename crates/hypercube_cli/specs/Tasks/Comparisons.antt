-- What it means to compare the plans of a study: the comparison, or the first value that is too wide.
use Rattle.std.specs.Prelude.{◌≡◌, ◌⊎◌, ℕ, ◌+◌, true, List, [], ◌∷◌, map, All, Contains, Option, Some, None, Result, Ok, IfSome}
use Rattle.std.specs.List.{AllZip}
use Rattle.hyper_model.specs.Enclosures.{EnclosureList}
use Rattle.hyper_model.specs.Laws.{HavePositiveDenominators}
use Rattle.hyper_model.specs.Measures.{word_of}
use Rattle.hyper_model.specs.Plans.{IsAccepted}
use Rattle.hyper_model.specs.Solutions.{HasSolution}
use Rattle.hyper_model.specs.declared.kinds.Method.{Method}
use Rattle.hyper_model.specs.declared.kinds.Method.TheVariants as method
use Rattle.hyper_model.specs.declared.parts.PlanParts.{PlanParts}
use Rattle.outer_world.specs.declared.named_text.NamedText.{NamedText}
use Rattle.report_text.specs.declared.ending.Widths.{Widths}
use Rattle.plan_compare.specs.Comparisons.{value_places, comparison_bytes, first_wide_of}
use Rattle.plan_solver.specs.Enclosures.{AreEnclosuresOf}
use Rattle.plan_solver.specs.SoundEnclosures.{AreEnclosuresBy, IsSoundEnclosure}
use Rattle.plan_compare.specs.Studies.{StudyParts, study_of}
use Rattle.plan_compare.specs.Truth.{AreTrue, ContainsPlans}
use Rattle.plan_compare.specs.Verdicts.{verdicts_of}
use Rattle.plan_compare.specs.declared.ending.CompareEnd.{CompareEnd}
use Rattle.plan_compare.specs.declared.ending.CompareEnd.TheVariants as end
use Rattle.plan_text.specs.Steps.{◌>>=◌}
use Rattle.hypercube_cli.specs.declared.refusal.Refusal.TheVariants as refused
use Rattle.hypercube_cli.specs.Endings.{Ending, EndsFrom, done_ending, wide_ending}
use Rattle.hypercube_cli.specs.ListEndings.{IsEndingOfList}
use Rattle.hypercube_cli.specs.Meanings.{Meaning}
use Rattle.hypercube_cli.specs.Readings.{content_at, plan_at, unless_refused}

abbrev pub study_in : List ℕ → Result StudyParts Ending
study_in text = unless_refused refused.Study (study_of text)

-- the study in the text of this name
abbrev pub study_at : List NamedText → List ℕ → Result StudyParts Ending
study_at texts name = content_at 0 study_in texts name

-- the plans in the texts of these names, of which the first is asked at this place, or the ending of the first that
-- has none
abbrev pub plans_from : List NamedText → ℕ → List (List ℕ) → Result (List PlanParts) Ending
plans_from texts place [] = Ok []
plans_from texts place (name ∷ names) =
    plan_at texts place name >>= λ plan. plans_from texts (place + 1) names >>= λ plans. Ok (plan ∷ plans)

-- the value that is too wide, or this ending if none is
abbrev pub unless_wide_value : Option CompareEnd → Ending → Ending
unless_wide_value (Some (end.TooWide place m lo hi)) narrow = wide_ending (word_of m) place m lo hi
unless_wide_value wide narrow = narrow

abbrev pub comparison_ending : StudyParts → Widths → List EnclosureList → Ending
comparison_ending study widths found =
    unless_wide_value (first_wide_of widths found (value_places study)) (done_ending (comparison_bytes study found))

-- the ending for the plans of a study, whose measures have the ends of the method
abbrev pub IsCompared : List PlanParts → Method → StudyParts → Widths → Ending → Type 0
IsCompared plans m study widths = IsEndingOfList (AreEnclosuresBy m plans) (comparison_ending study widths)

-- The text is the comparison of these plans. Each plan has a list of measures with the ends of the method, by elimination
-- one only, and these ends are sound. Its values contain their measures, and its verdicts are true, for every solution of
-- each plan.
pub record IsTrueComparison (m : Method) (study : StudyParts) (plans : List PlanParts) (text : List ℕ) : Type 0 where
  pub found : List EnclosureList
  pub enclosed : AreEnclosuresBy m plans found
  pub alone : m ≡ method.Elimination → (others : List EnclosureList) → AreEnclosuresOf plans others
      → map (λ e. e.items) others ≡ map (λ e. e.items) found
  pub sound : AllZip (λ p list. IsSoundEnclosure p list.items) plans found
  pub written : text ≡ comparison_bytes study found
  pub contains : ContainsPlans study found
  pub separates : AreTrue study found (verdicts_of study found)

-- And the plans are those of the study that has this name. They are accepted, the balance equations of each have a
-- solution, and in each solution the denominators of the measures are positive.
pub record IsProvedComparison (m : Method) (texts : List NamedText) (name text : List ℕ) : Type 0 where
  pub study : StudyParts
  pub plans : List PlanParts
  pub read : study_at texts name ≡ Ok study
  pub plans_read : plans_from texts 1 study.plans ≡ Ok plans
  pub accepted : All IsAccepted plans
  pub solvable : All HasSolution plans
  pub positive : All HavePositiveDenominators plans
  pub compared : IsTrueComparison m study plans text

-- the ending of the study of this name: that of its plans, or of the first of them that is missing or refused
abbrev pub IsStudied : Method → List NamedText → List ℕ → Widths → Ending → Type 0
IsStudied m texts name widths =
    EndsFrom (study_at texts name)
    (λ study. EndsFrom (plans_from texts 1 study.plans) (λ plans. IsCompared plans m study widths))

-- the name is that of a plan of the study that the texts tell
pub record IsOfStudy (texts : List NamedText) (study name : List ℕ) : Type 0 where
  pub parts : StudyParts
  pub read : study_at texts study ≡ Ok parts
  pub named : Contains parts.plans name

-- or that of the study
abbrev pub IsAskedBy : List NamedText → List ℕ → Option (List ℕ) → Type 0
IsAskedBy texts study (Some name) = (name ≡ study) ⊎ IsOfStudy texts study name
IsAskedBy texts study None = ⊥

abbrev pub compare_meaning : List ℕ → Widths → Method → Meaning
compare_meaning study widths m = record {
  ends = λ texts. IsStudied m texts study widths;
  proves = λ texts. IsProvedComparison m texts study;
  asks = λ told fault. IfSome told (λ texts. IsAskedBy texts study fault);
  reads = true;
}

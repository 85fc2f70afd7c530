-- What is proved of the plans that are compared.
use Rattle.std.proofs.Common.{◌≡◌, ℕ, List, [], ◌∷◌, All, map}
use Rattle.std.specs.Prelude.{Option, Some, None, Ok, IfSome}
use Rattle.std.specs.List.{AllZip}
use Rattle.std.proofs.lemmas.List.Elements.{All-cons, All-head, All-nil, All-tail}
use Rattle.hyper_model.specs.Enclosures.{EnclosureList}
use Rattle.hyper_model.specs.Plans.{IsAccepted}
use Rattle.hyper_model.specs.Laws.{HavePositiveDenominators}
use Rattle.hyper_model.specs.Solutions.{HasSolution}
use Rattle.hyper_model.specs.declared.kinds.Method.{Method}
use Rattle.hyper_model.specs.declared.kinds.Method.TheVariants as method
use Rattle.hyper_model.specs.declared.parts.PlanParts.{PlanParts}
use Rattle.hyper_model.proofs.Denominators.{denominator_positive}
use Rattle.hyper_model.proofs.PlanLaws.{has_solution}
use Rattle.outer_world.specs.declared.named_text.NamedText.{NamedText}
use Rattle.plan_solver.specs.Enclosures.{AreEnclosuresOf}
use Rattle.plan_solver.specs.SoundEnclosures.{AreEnclosuresBy, IsSoundEnclosure}
use Rattle.plan_solver.proofs.SolvedPlans.{same_enclosures}
use Rattle.plan_solver.proofs.SoundMeasures.{sound_by}
use Rattle.plan_compare.specs.Studies.{StudyParts}
use Rattle.hypercube_cli.specs.declared.outcome.Outcome.TheVariants as outcome
use Rattle.hypercube_cli.specs.Endings.{Ending}
use Rattle.hypercube_cli.specs.Tasks.Comparisons.{IsProvedComparison, IsTrueComparison, plans_from, study_at}

-- what each accepted plan has
have_each : (P : PlanParts → Type 0) → ((p : PlanParts) → IsAccepted p → P p) → (plans : List PlanParts)
    → All IsAccepted plans → All P plans
have_each P of_one [] accepted = All-nil P
have_each P of_one (p ∷ ps) accepted =
    All-cons P p ps (of_one p (All-head IsAccepted p ps accepted)) (have_each P of_one ps (All-tail IsAccepted p ps accepted))

-- what a method finds of accepted plans is sound
pub each_sound : (m : Method) (plans : List PlanParts) (found : List EnclosureList) → All IsAccepted plans
    → AreEnclosuresBy m plans found → AllZip (λ p list. IsSoundEnclosure p list.items) plans found
each_sound m [] [] accepted are = tt
each_sound m [] (f ∷ fs) accepted are = absurd are
each_sound m (p ∷ ps) [] accepted are = absurd are
each_sound m (p ∷ ps) (f ∷ fs) accepted are = (
  sound_by m p (All-head IsAccepted p ps accepted) f.items are.0,
  each_sound m ps fs (All-tail IsAccepted p ps accepted) are.1,
)

-- by elimination there is one list of measures for each plan
pub only_lists : (m : Method) (plans : List PlanParts) (found others : List EnclosureList) → AreEnclosuresBy m plans found
    → m ≡ method.Elimination → AreEnclosuresOf plans others → map (λ e. e.items) others ≡ map (λ e. e.items) found
only_lists method.Elimination plans found others enclosed is same = same_enclosures plans found others enclosed same
only_lists method.Certificate plans found others enclosed is same = absurd (cc)

-- what is proved of the plans of the study that was read
pub proved_comparison : (m : Method) (told : Option (List NamedText)) (name : List ℕ) (study : StudyParts) (plans : List PlanParts) (ending : Ending)
    → IfSome told (λ texts. study_at texts name ≡ Ok study) → IfSome told (λ texts. plans_from texts 1 study.plans ≡ Ok plans)
    → All IsAccepted plans → (ending.outcome ≡ outcome.Done → IsTrueComparison m study plans ending.text)
    → IfSome told (λ texts. ending.outcome ≡ outcome.Done → IsProvedComparison m texts name ending.text)
proved_comparison m None name study plans ending read plans_read accepted proved = tt
proved_comparison m (Some texts) name study plans ending read plans_read accepted proved = λ done. record {
  study = study;
  plans = plans;
  read = read;
  plans_read = plans_read;
  accepted = accepted;
  solvable = have_each HasSolution has_solution plans accepted;
  positive = have_each HavePositiveDenominators denominator_positive plans accepted;
  compared = proved done;
}

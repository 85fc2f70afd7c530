-- What a command comes to that asks something of the text in a file, by what was read.
use Rattle.std.proofs.Common.{◌≡◌, ℕ, List}
use Rattle.std.specs.Prelude.{Option, Some, None, Result, Ok, Err, IfOk, IfSome}
use Rattle.hyper_model.specs.Plans.{IsAccepted}
use Rattle.hyper_model.specs.declared.parts.PlanParts.{PlanParts}
use Rattle.outer_world.specs.declared.named_text.NamedText.{NamedText}
use Rattle.hypercube_cli.specs.declared.outcome.Outcome.TheVariants as outcome
use Rattle.hypercube_cli.specs.declared.stop.Stop.{Stop}
use Rattle.hypercube_cli.specs.Endings.{Ending, EndsFrom}
use Rattle.hypercube_cli.specs.Readings.{plan_at}
use Rattle.hypercube_cli.specs.Runs.{Answers}
use Rattle.hypercube_cli.specs.Tasks.Plans.{IsProvedOfPlan}

-- what is answered for a value is an ending of what gave it
pub answers_from : {X : Type 0} (given : Result X Ending) (x : X) (ends : X → Ending → Type 0) (result : Result Ending Stop)
    → given ≡ Ok x → Answers (ends x) result → Answers (EndsFrom given ends) result
answers_from given x ends (Ok ending) gives is = rw gives is
answers_from given x ends (Err stopped) gives is = rw gives is

-- the ending of what was read is one of the command
pub read_answers : {X : Type 0} (told : Option (List NamedText)) (given : List NamedText → Result X Ending)
    (ends : X → Ending → Type 0) (x : X) (result : Result Ending Stop) → IfSome told (λ texts. given texts ≡ Ok x)
    → Answers (ends x) result → IfSome told (λ texts. Answers (EndsFrom (given texts) ends) result)
read_answers None given ends x result read is = tt
read_answers (Some texts) given ends x result read is = answers_from (given texts) x ends result read is

-- what is proved of the plan that was read is proved of the text in the file
pub plan_proved : (told : Option (List NamedText)) (file : List ℕ) (proves : PlanParts → List ℕ → Type 0) (p : PlanParts)
    (result : Result Ending Stop) → IfSome told (λ texts. plan_at texts 1 file ≡ Ok p) → IsAccepted p
    → IfOk result (λ ending. ending.outcome ≡ outcome.Done → proves p ending.text)
    → IfSome told (λ texts. IfOk result (λ ending. ending.outcome ≡ outcome.Done
    → IsProvedOfPlan (plan_at texts 1 file) proves ending.text))
plan_proved None file proves p result read accepted proved = tt
plan_proved (Some texts) file proves p (Ok ending) read accepted proved = λ done. record {
  plan = p;
  read = read;
  accepted = accepted;
  proved = proved done;
}
plan_proved (Some texts) file proves p (Err stopped) read accepted proved = tt

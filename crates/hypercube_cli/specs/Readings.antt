-- What the texts of a shelf say: the content of a named text, or the ending that stands in its place.
use Rattle.std.specs.Prelude.{◌≡◌, ℕ, List, Option, Some, None, Result, Ok, Err, IfSome}
use Rattle.hyper_model.specs.declared.parts.PlanParts.{PlanParts}
use Rattle.outer_world.specs.Shelf.{text_named}
use Rattle.outer_world.specs.Taken.{taken}
use Rattle.outer_world.specs.declared.named_text.NamedText.{NamedText}
use Rattle.plan_reader.specs.PlanOf.{plan_of}
use Rattle.hypercube_cli.specs.declared.refusal.Refusal.{Refusal}
use Rattle.hypercube_cli.specs.declared.refusal.Refusal.TheVariants as refused
use Rattle.hypercube_cli.specs.declared.stop.Stop.{Stop}
use Rattle.hypercube_cli.specs.Endings.{Ending, absent_ending, refused_ending}
use Rattle.hypercube_cli.specs.Stops.{ending_at}

abbrev pub unless_refused : {X R : Type 0} → (R → Refusal) → Result X R → Result X Ending
unless_refused refusal (Ok x) = Ok x
unless_refused refusal (Err r) = Err (refused_ending (refusal r))

abbrev pub content_in : {X : Type 0} → ℕ → (List ℕ → Result X Ending) → Option (List ℕ) → Result X Ending
content_in place content None = Err (absent_ending place)
content_in place content (Some text) = content (taken text)

-- what the text of this name says, which is asked at this place
abbrev pub content_at : {X : Type 0} → ℕ → (List ℕ → Result X Ending) → List NamedText → List ℕ → Result X Ending
content_at place content texts name = content_in place content (text_named texts name)

abbrev pub plan_in : ℕ → List ℕ → Result PlanParts Ending
plan_in place text = unless_refused (refused.Plan place) (plan_of text)

-- the plan in the text of this name
abbrev pub plan_at : List NamedText → ℕ → List ℕ → Result PlanParts Ending
plan_at texts place name = content_at place (plan_in place) texts name

-- a call answers what is given, as `view` shows it, or stops at the ending in its place, or for what no text tells of
abbrev pub ReachesAs : {X Y : Type 0} → (X → Y) → Result Y Ending → Result X Stop → Type 0
ReachesAs view given (Ok x) = given ≡ Ok (view x)
ReachesAs view given (Err s) = IfSome (ending_at s) (λ ending. given ≡ Err ending)

abbrev pub Reaches : {X : Type 0} → Result X Ending → Result X Stop → Type 0
Reaches given result = ReachesAs (λ x. x) given result

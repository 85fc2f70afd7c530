-- Refusals of a study: their numbers and their arguments.
use Rattle.std.specs.Prelude.{◌≡◌, Option, None}
use Rattle.text_lines.specs.RefusalCodes.{of_one, plain}
use Rattle.text_lines.specs.declared.refusal_code.RefusalCode.{RefusalCode}
use Rattle.plan_compare.specs.declared.refusal.StudyRefusal.{StudyRefusal}
use Rattle.plan_compare.specs.declared.refusal.StudyRefusal.TheVariants as refusal

-- the number and the arguments by which a refusal is reported
abbrev pub code_of : StudyRefusal → RefusalCode
code_of refusal.BadStudy = plain 60
code_of (refusal.UnknownMeasure place) = of_one 61 place
code_of (refusal.PlanCount count) = of_one 62 count
code_of (refusal.StudyTooLong bytes) = of_one 63 bytes
code_of refusal.NoMemory = plain 0

-- There is nothing, and the refusal says so; or there was no memory to find it.
abbrev pub IsRefused : {A : Type 0} → Option A → StudyRefusal → Type 0
IsRefused found refusal.BadStudy = found ≡ None
IsRefused found refusal.NoMemory = Prim.Unit {0}
IsRefused found e = ⊥

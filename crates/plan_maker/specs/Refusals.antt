-- Refusals by their numbers.
use Rattle.text_lines.specs.RefusalCodes.{plain}
use Rattle.text_lines.specs.declared.refusal_code.RefusalCode.{RefusalCode}
use Rattle.plan_maker.specs.declared.refusal.MakeRefusal.{MakeRefusal}
use Rattle.plan_maker.specs.declared.refusal.MakeRefusal.TheVariants as refusal

abbrev pub code_of : MakeRefusal → RefusalCode
code_of refusal.MakeRange = plain 70
code_of refusal.NoMemory = plain 0

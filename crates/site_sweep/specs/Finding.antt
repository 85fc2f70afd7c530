-- The unit that has a name, or the refusal if none has it.
use Rattle.std.specs.Prelude.{ℕ, Option, Some, None, Result, Ok, Err, List}
use Rattle.std.specs.List.{position}
use Rattle.std.specs.Str.{bytes_eq}
use Rattle.hyper_model.specs.declared.parts.PlanParts.{PlanParts}
use Rattle.text_lines.specs.RefusalCodes.{plain}
use Rattle.text_lines.specs.declared.refusal_code.RefusalCode.{RefusalCode}
use Rattle.site_sweep.specs.declared.refusal.SweepRefusal.{SweepRefusal}
use Rattle.site_sweep.specs.declared.refusal.SweepRefusal.TheVariants as refusal

-- the place of the unit of this name, if there is one
abbrev pub unit_named : PlanParts → List ℕ → Option ℕ
unit_named p name = position (λ unit. bytes_eq unit.name name) p.units

abbrev pub if_named : Option ℕ → Result ℕ SweepRefusal
if_named (Some n) = Ok n
if_named None = Err refusal.SweepUnit

unfoldable pub unit_of : PlanParts → List ℕ → Result ℕ SweepRefusal
unit_of p name = if_named (unit_named p name)

-- the number by which a refusal is reported
abbrev pub code_of : SweepRefusal → RefusalCode
code_of refusal.SweepUnit = plain 85

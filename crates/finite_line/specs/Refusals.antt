-- For which plans there is an answer, and what stands against it.
use Rattle.std.specs.Prelude.{◌≡◌, ℕ, ◌<◌}
use Rattle.hyper_model.specs.declared.TheConstants.{MOST_UNITS}
use Rattle.hyper_model.specs.declared.kinds.Line.TheVariants as line
use Rattle.hyper_model.specs.declared.parts.PlanParts.{PlanParts}
use Rattle.hyper_model.specs.Plans.{units}
use Rattle.text_lines.specs.RefusalCodes.{of_one, plain}
use Rattle.text_lines.specs.declared.refusal_code.RefusalCode.{RefusalCode}
use Rattle.finite_line.specs.declared.refusal.FiniteRefusal.{FiniteRefusal}
use Rattle.finite_line.specs.declared.refusal.FiniteRefusal.TheVariants as refusal

-- the line has no place of its own for calls that wait, and there are few enough units to leave room for those
pub record IsFinitePlan (p : PlanParts) : Type 0 where
  pub zero_line : p.line ≡ line.Zero
  pub few_units : units p < MOST_UNITS

-- the first cause of all against an answer
abbrev pub IsCauseOf : PlanParts → FiniteRefusal → Type 0
IsCauseOf p refusal.LineNotZero = p.line ≡ line.Infinite
IsCauseOf p (refusal.FiniteUnits count) = (p.line ≡ line.Zero) × (units p ≡ MOST_UNITS) × (count ≡ units p)

-- the number and the arguments by which a refusal is reported
abbrev pub code_of : FiniteRefusal → RefusalCode
code_of refusal.LineNotZero = plain 80
code_of (refusal.FiniteUnits count) = of_one 81 count

-- Refusals of a fleet: their numbers and arguments, and those of other readers as such.
use Rattle.text_lines.specs.RefusalCodes.{of_one, plain}
use Rattle.text_lines.specs.declared.refusal_code.RefusalCode.{RefusalCode}
use Rattle.plan_text.specs.declared.refusal.TextRefusal.{TextRefusal}
use Rattle.plan_reader.specs.Refusals as reader
use Rattle.plan_reader.specs.declared.refusal.PlanRefusal.{PlanRefusal}
use Rattle.plan_reader.specs.declared.refusal.PlanRefusal.TheVariants as plan
use Rattle.plan_reader.specs.declared.fleet_refusal.FleetRefusal.{FleetRefusal}
use Rattle.plan_reader.specs.declared.fleet_refusal.FleetRefusal.TheVariants as fleet

-- the number and the arguments by which a refusal is reported
abbrev pub code_of : FleetRefusal → RefusalCode
code_of (fleet.Plan refusal) = reader.code_of refusal
code_of (fleet.CrewsTwice row) = of_one 100 row
code_of (fleet.TooManyCrews crews) = of_one 101 crews
code_of (fleet.TooManyStates states) = of_one 102 states
code_of (fleet.CrewService sum) = of_one 103 sum
code_of fleet.NoMemory = plain 0

abbrev pub of_plan : PlanRefusal → FleetRefusal
of_plan plan.NoMemory = fleet.NoMemory
of_plan refusal = fleet.Plan refusal

abbrev pub of_text : TextRefusal → FleetRefusal
of_text refusal = of_plan (reader.of_text refusal)

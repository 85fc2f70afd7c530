-- The fleet of a text, or why it has none.
use Rattle.std.specs.Prelude.{ℕ, List, Result, Ok, Err}
use Rattle.hyper_model.specs.declared.parts.PlanParts.{PlanParts}
use Rattle.plan_text.specs.Reading.{fleet_records_of}
use Rattle.plan_text.specs.Steps.{◌>>=◌, unless_refused}
use Rattle.plan_text.specs.declared.kind.AddedKind.TheVariants as added
use Rattle.plan_text.specs.declared.record.Record.{Record}
use Rattle.atom_table.specs.Entries.{unit_names}
use Rattle.crew_stations.specs.Stations.{StationPlan}
use Rattle.plan_reader.specs.PlanOf.{parts_given}
use Rattle.plan_reader.specs.Crews.{crews_in, crews_records_refusal}
use Rattle.plan_reader.specs.FleetLimits.{limits_refusal}
use Rattle.plan_reader.specs.FleetRefusals.{of_plan, of_text}
use Rattle.plan_reader.specs.declared.fleet_refusal.FleetRefusal.{FleetRefusal}

-- what a reader gives, with its refusal as one of the fleet
abbrev pub fleet_result : {A E : Type 0} → (E → FleetRefusal) → Result A E → Result A FleetRefusal
fleet_result of_reader (Ok x) = Ok x
fleet_result of_reader (Err e) = Err (of_reader e)

-- stations, with the crews that records give them
abbrev pub with_crews : PlanParts → List Record → StationPlan
with_crews parts records = record { parts = parts; crews = crews_in (unit_names parts.units) records }

-- The fleet of a text. The refusal is that of the first step that refuses: the records, the parts of a plan that they give,
-- the records of crews, and the limits of a fleet.
unfoldable pub fleet_of : List ℕ → Result StationPlan FleetRefusal
fleet_of bytes = do
  records ← fleet_result of_text (fleet_records_of bytes)
  parts ← fleet_result of_plan (parts_given added.Crews records)
  counted ← unless_refused (crews_records_refusal (unit_names parts.units) records)
  limited ← unless_refused (limits_refusal (with_crews parts records))
  Ok (with_crews parts records)

-- The plan of a text, or why it has none.
use Rattle.std.specs.Prelude.{ℕ, if◌then◌else◌, nat_lt, List, Option, Some, None, Result, Ok, Err}
use Rattle.hyper_model.specs.Grid.{Grid}
use Rattle.hyper_model.specs.Groups.{GroupLists}
use Rattle.hyper_model.specs.Plans.{HasAtoms, HasLists, HasLocations, HasTravel, HasUnits, IsBetween, all_calls, all_service}
use Rattle.hyper_model.specs.declared.TheConstants.{MOST_PERIOD}
use Rattle.hyper_model.specs.declared.kinds.Line.{Line}
use Rattle.hyper_model.specs.declared.kinds.Line.TheVariants as line
use Rattle.hyper_model.specs.declared.parts.PlanParts.{PlanParts}
use Rattle.plan_text.specs.Reading.{records_of}
use Rattle.plan_text.specs.Steps.{◌>>=◌, unless_refused}
use Rattle.plan_text.specs.declared.kind.AddedKind.{AddedKind}
use Rattle.plan_text.specs.declared.kind.AddedKind.TheVariants as added
use Rattle.plan_text.specs.declared.record.Record.{Record}
use Rattle.atom_table.specs.Entries.{Entries}
use Rattle.atom_table.specs.Refusals.{entries_of}
use Rattle.travel_table.specs.Travel.{travel_of}
use Rattle.unit_location.specs.Located.{located_of}
use Rattle.preference_rules.specs.Given.{preferences_of}
use Rattle.plan_reader.specs.Refusals.{of_atom, of_list, of_location, of_text, of_travel}
use Rattle.plan_reader.specs.Settings.{settings_of}
use Rattle.plan_reader.specs.declared.refusal.PlanRefusal.{PlanRefusal}
use Rattle.plan_reader.specs.declared.refusal.PlanRefusal.TheVariants.{NotStable}
use Rattle.plan_reader.specs.declared.settings.Settings.{Settings}

-- what a reader gives, with its refusal as one of the plan
abbrev pub plan_result : {A E : Type 0} → (E → PlanRefusal) → Result A E → Result A PlanRefusal
plan_result of_reader (Ok x) = Ok x
plan_result of_reader (Err e) = Err (of_reader e)

-- calls that wait have to be fewer than can be served
abbrev pub stable_refusal : Line → ℕ → ℕ → Option PlanRefusal
stable_refusal line.Zero calls service = None
stable_refusal line.Infinite calls service = if nat_lt calls service then None else Some (NotStable calls service)

abbrev pub parts_of : Settings → Entries → GroupLists → Grid → Grid → PlanParts
parts_of settings entries lists located travel = record {
  line = settings.line;
  rule = settings.rule;
  period = settings.period;
  units = entries.units;
  atoms = entries.atoms;
  lists = lists;
  located = located;
  travel = travel;
}

-- The parts of a plan that the records of a text give, to which this kind can be added. The refusal is that of the first
-- step that refuses: the settings, the units and atoms, the travel times, the locations, and the preference lists.
unfoldable pub parts_given : AddedKind → List Record → Result PlanParts PlanRefusal
parts_given more records = do
  settings ← settings_of more records
  entries ← plan_result of_atom (entries_of records)
  travel ← plan_result of_travel (travel_of entries records)
  located ← plan_result of_location (located_of entries records)
  lists ← plan_result of_list (preferences_of settings.rule entries located records)
  Ok (parts_of settings entries lists located travel)

-- all that is asked of an accepted plan, but that calls that wait are fewer than the units can serve
pub record AreWholeParts (p : PlanParts) : Type 0 where
  pub units : HasUnits p
  pub atoms : HasAtoms p
  pub lists : HasLists p
  pub locations : HasLocations p
  pub travel : HasTravel p
  pub period : IsBetween 1 MOST_PERIOD p.period

-- the plan of records: of their parts, unless calls that wait are too many
unfoldable pub plan_in : List Record → Result PlanParts PlanRefusal
plan_in records = do
  parts ← parts_given added.Group records
  stable ← unless_refused (stable_refusal parts.line (all_calls parts) (all_service parts))
  Ok parts

-- the plan of a text: that of its records
unfoldable pub plan_of : List ℕ → Result PlanParts PlanRefusal
plan_of bytes = plan_result of_text (records_of bytes) >>= plan_in

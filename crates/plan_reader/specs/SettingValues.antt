-- The values of the settings while records are read, one after the other.
use Rattle.std.specs.Prelude.{if◌then◌else◌, Option, Some, None, is_some, unwrap_or}
use Rattle.hyper_model.specs.declared.kinds.Line.TheVariants as line
use Rattle.hyper_model.specs.declared.kinds.Rule.TheVariants as rule
use Rattle.plan_text.specs.declared.kind.AddedKind.{AddedKind}
use Rattle.plan_text.specs.declared.record.Record.{Record}
use Rattle.plan_text.specs.declared.record.Record.TheVariants as rec
use Rattle.plan_reader.specs.Settings.{version_refusal}
use Rattle.plan_reader.specs.declared.refusal.PlanRefusal.{PlanRefusal}
use Rattle.plan_reader.specs.declared.refusal.PlanRefusal.TheVariants.{SettingTwice}
use Rattle.plan_reader.specs.declared.settings.Settings.{Settings}
use Rattle.plan_reader.specs.declared.settings.TheConstants.{HOUR}
use Rattle.plan_reader.specs.declared.settings.Values.{Values}

-- a record after those that gave these values: its setting may have none yet, and a version has to be known
abbrev pub value_refusal : AddedKind → Values → Record → Option PlanRefusal
value_refusal more values (rec.Version at number) =
    if is_some values.version then Some (SettingTwice at) else version_refusal more (rec.Version at number)
value_refusal more values (rec.LineIs at line) = if is_some values.line then Some (SettingTwice at) else None
value_refusal more values (rec.RuleIs at rule) = if is_some values.rule then Some (SettingTwice at) else None
value_refusal more values (rec.Period at seconds) = if is_some values.period then Some (SettingTwice at) else None
value_refusal more values _ = None

-- the values with that of one record more
abbrev pub with_setting : Values → Record → Values
with_setting values (rec.Version at number) = record values { version = Some number }
with_setting values (rec.LineIs at line) = record values { line = Some line }
with_setting values (rec.RuleIs at rule) = record values { rule = Some rule }
with_setting values (rec.Period at seconds) = record values { period = Some seconds }
with_setting values _ = values

abbrev pub settings_of_values : Values → Settings
settings_of_values values = record {
  line = unwrap_or values.line line.Zero;
  rule = unwrap_or values.rule rule.Given;
  period = unwrap_or values.period HOUR;
}

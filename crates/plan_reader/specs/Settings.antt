-- The settings of a plan: what becomes of calls that find no free unit, where the lists come from, and the period.
use Rattle.std.specs.Prelude.{ℕ, ◌==◌, ◌||◌, Bool, true, false, if◌then◌else◌, List, [], ◌∷◌, Option, Some, None, Result, Ok, unwrap_or}
use Rattle.std.specs.List.{list_any}
use Rattle.std.specs.Option.{option_or}
use Rattle.hyper_model.specs.declared.kinds.Line.{Line}
use Rattle.hyper_model.specs.declared.kinds.Line.TheVariants as line
use Rattle.hyper_model.specs.declared.kinds.Rule.{Rule}
use Rattle.hyper_model.specs.declared.kinds.Rule.TheVariants as rule
use Rattle.plan_text.specs.Form.{at_of}
use Rattle.plan_text.specs.Kinds.{added_version}
use Rattle.plan_text.specs.Steps.{◌>>=◌, first_over, unless_refused}
use Rattle.plan_text.specs.declared.kind.AddedKind.{AddedKind}
use Rattle.plan_text.specs.declared.record.Record.{Record}
use Rattle.plan_text.specs.declared.record.Record.TheVariants as rec
use Rattle.plan_reader.specs.declared.refusal.PlanRefusal.{PlanRefusal}
use Rattle.plan_reader.specs.declared.refusal.PlanRefusal.TheVariants.{SettingTwice, Version}
use Rattle.plan_reader.specs.declared.settings.Settings.{Settings}
use Rattle.plan_reader.specs.declared.settings.TheConstants.{HOUR}

-- the value that a record gives a setting
abbrev pub version_in : Record → Option ℕ
version_in (rec.Version at number) = Some number
version_in _ = None

abbrev pub line_in : Record → Option Line
line_in (rec.LineIs at line) = Some line
line_in _ = None

abbrev pub rule_in : Record → Option Rule
rule_in (rec.RuleIs at rule) = Some rule
rule_in _ = None

abbrev pub period_in : Record → Option ℕ
period_in (rec.Period at seconds) = Some seconds
period_in _ = None

-- whether two records are of one kind of setting
abbrev pub are_one_setting : Record → Record → Bool
are_one_setting (rec.Version at number) (rec.Version other_at other) = true
are_one_setting (rec.LineIs at line) (rec.LineIs other_at other) = true
are_one_setting (rec.RuleIs at rule) (rec.RuleIs other_at other) = true
are_one_setting (rec.Period at seconds) (rec.Period other_at other) = true
are_one_setting _ _ = false

-- a version is 1, or that of the kind of record that can be added
abbrev pub version_refusal : AddedKind → Record → Option PlanRefusal
version_refusal more (rec.Version at number) = if (number == 1) || (number == added_version more) then None else Some (Version at)
version_refusal more _ = None

-- A record after others: none of them may be of the same kind of setting, and a version has to be known.
abbrev pub setting_refusal : AddedKind → List Record → Record → Option PlanRefusal
setting_refusal more before r =
    if list_any (are_one_setting r) before then Some (SettingTwice (at_of r)) else version_refusal more r

-- the first such record
abbrev pub settings_refusal : AddedKind → List Record → Option PlanRefusal
settings_refusal more records = first_over (setting_refusal more) [] records

-- the value that the first record for a setting gives it
abbrev pub first_value : {A : Type 0} → (Record → Option A) → List Record → Option A
first_value value [] = None
first_value value (r ∷ records) = option_or (value r) (first_value value records)

-- the settings of records: without a record for one, calls do not wait, the records give the lists, and the period is an
-- hour
abbrev pub settings_in : List Record → Settings
settings_in records = record {
  line = unwrap_or (first_value line_in records) line.Zero;
  rule = unwrap_or (first_value rule_in records) rule.Given;
  period = unwrap_or (first_value period_in records) HOUR;
}

-- the settings of records that are not refused
unfoldable pub settings_of : AddedKind → List Record → Result Settings PlanRefusal
settings_of more records = unless_refused (settings_refusal more records) >>= λ _. Ok (settings_in records)

use Rattle.std.proofs.Common.{◌≡◌, drop, take}
use Rattle.plan_text.specs.Steps.{first_over}
use Rattle.plan_reader.specs.Settings.{setting_refusal, settings_refusal}
use Rattle.plan_reader.proofs.SettingSteps.{values_in}
use Rattle.plan_reader.proofs.settings.read_settings.Given as goal

abbrev pub invariant-loop-item : goal.invariant-loop-item
invariant-loop-item l = record {
  values : l.values ≡ values_in (take l.item-index l.records);
  so_far : first_over (setting_refusal l.added) (take l.item-index l.records) (drop l.item-index l.records) ≡ settings_refusal l.added l.records;
}

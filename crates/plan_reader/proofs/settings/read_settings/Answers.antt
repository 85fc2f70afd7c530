use Rattle.std.proofs.Common.{◌≡◌, ◌∙◌, ◌<◌, ◌≤◌, length, take, ap, sym, arith}
use Rattle.std.specs.Prelude.{Some, None}
use Rattle.std.proofs.lemmas.Result.{err_from_is_err_and}
use Rattle.plan_text.proofs.Over.{over-all, over-more, over-refused}
use Rattle.plan_reader.specs.SettingValues.{settings_of_values, value_refusal}
use Rattle.plan_reader.specs.Settings.{setting_refusal, settings_refusal}
use Rattle.plan_reader.proofs.SettingSteps.{settings_of-done, settings_of-refused, value_refusal-is, values-all, values-more, values_in}
use Rattle.plan_reader.proofs.settings.read_settings.Goals as goal

pub returns-in_err-take_setting : goal.returns-in_err-take_setting
returns-in_err-take_setting c =
    let lt : c.loop-item.item-index < length c.args.records.now = omega arith in
    let p = err_from_is_err_and c.from_residual.result c.from_residual.ensures.1 in
    let by_values = rw c.loop-item.invariant.values at c.in_err-take_setting.ensures.refusal in
    let refused : setting_refusal c.args.added (take c.loop-item.item-index c.args.records.now) c.item-item.result ≡ Some c.in_err-take_setting.field-0.0 =
    sym (value_refusal-is c.args.added (take c.loop-item.item-index c.args.records.now) c.item-item.result) ∙ by_values in
    rw (p.1, p.2) (sym (settings_of-refused c.args.added c.args.records.now c.in_err-take_setting.field-0.0
    (over-refused (setting_refusal c.args.added) c.args.records.now c.loop-item.item-index c.item-item.result (settings_refusal c.args.added c.args.records.now)
    c.in_err-take_setting.field-0.0 lt (sym c.item-item.is) refused c.loop-item.invariant.so_far)))

pub loop-item-preserved : goal.loop-item-preserved
loop-item-preserved c =
    let lt : c.loop-item.item-index < length c.args.records.now = omega arith in
    let by_values : value_refusal c.args.added (values_in (take c.loop-item.item-index c.args.records.now)) c.item-item.result ≡ None =
    rw c.loop-item.invariant.values at c.in_ok-take_setting.ensures.refusal in
    let passed : setting_refusal c.args.added (take c.loop-item.item-index c.args.records.now) c.item-item.result ≡ None =
    sym (value_refusal-is c.args.added (take c.loop-item.item-index c.args.records.now) c.item-item.result) ∙ by_values in
    record {
      values = values-more c.args.added c.args.records.now c.loop-item.item-index c.item-item.result c.loop-item.values c.take_setting.new.values lt
          (sym c.item-item.is) c.loop-item.invariant.values by_values c.in_ok-take_setting.ensures.taken;
      so_far = over-more (setting_refusal c.args.added) c.args.records.now c.loop-item.item-index c.item-item.result (settings_refusal c.args.added c.args.records.now)
          lt (sym c.item-item.is) passed c.loop-item.invariant.so_far;
    }

pub returns : goal.returns
returns c =
    let le : length c.args.records.now ≤ c.loop-item.item-index = omega arith in
    let none = over-all (setting_refusal c.args.added) c.args.records.now c.loop-item.item-index (settings_refusal c.args.added c.args.records.now) le c.loop-item.invariant.so_far in
    let values = values-all c.args.records.now c.loop-item.item-index c.loop-item.values le c.loop-item.invariant.values in
    sym (settings_of-done c.args.added c.args.records.now c.settings_of_values.result none (c.settings_of_values.ensures ∙ ap settings_of_values values))

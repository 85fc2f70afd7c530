use Rattle.std.proofs.Common.{◌∙◌, sym}
use Rattle.plan_compare.proofs.WideValues.{wide_here, wide_past}
use Rattle.plan_compare.proofs.widths.check_plan.Goals as goal

pub returns-then-is_wide-clause-wide : goal.returns-then-is_wide-clause-wide
returns-then-is_wide-clause-wide c =
    c.loop-k.invariant
    ∙ wide_here c.args.widths c.args.found.now c.args.study.now.measures c.args.place c.loop-k.k c.measure-measure.result c.value_at-value.result
    c.measure-measure.ensures.measure c.value_at-value.ensures.value (sym c.is_wide.ensures ∙ c.if-is_wide.true)

pub loop-k-preserved : goal.loop-k-preserved
loop-k-preserved c =
    c.loop-k.invariant
    ∙ wide_past c.args.widths c.args.found.now c.args.study.now.measures c.args.place c.loop-k.k c.measure-measure.result c.value_at-value.result
    c.measure-measure.ensures.measure c.value_at-value.ensures.value (sym c.is_wide.ensures ∙ c.if-is_wide.false)

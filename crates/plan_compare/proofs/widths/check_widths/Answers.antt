use Rattle.std.proofs.Common.{◌≡◌, ◌<◌, ◌∙◌, rules, arith, length, Some}
use Rattle.plan_compare.specs.Comparisons.{value_places, first_wide_of}
use Rattle.plan_compare.proofs.WideValues.{plan_here, plan_past}
use Rattle.plan_compare.proofs.widths.check_widths.Goals as goal

pub returns-in_err-check_plan-clause-wide : goal.returns-in_err-check_plan-clause-wide
returns-in_err-check_plan-clause-wide c =
    let found = c.args.found.now in
    let within : c.loop-place.place < length found = omega (arith, c.loop-place-test.true) in
    let here : first_wide_of c.args.widths found (value_places c.args.study.now) ≡ Some c.in_err-check_plan.field-0.0 =
    c.loop-place.invariant
    ∙ plan_here c.args.widths found c.args.study.now.measures (length found) c.loop-place.place c.in_err-check_plan.field-0.0 within
    c.in_err-check_plan.ensures.wide in
    search (rules, here)

pub loop-place-preserved : goal.loop-place-preserved
loop-place-preserved c =
    let found = c.args.found.now in
    let within : c.loop-place.place < length found = omega (arith, c.loop-place-test.true) in
    c.loop-place.invariant
    ∙ plan_past c.args.widths found c.args.study.now.measures (length found) c.loop-place.place within c.in_ok-check_plan.ensures.narrow

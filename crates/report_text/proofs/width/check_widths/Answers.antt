use Rattle.std.proofs.Common.{◌≡◌, ◌∙◌, rules, Some}
use Rattle.report_text.specs.Reports.{is_printed}
use Rattle.report_text.specs.TooWide.{is_wide, first_wide, EndsAt}
use Rattle.report_text.proofs.ItemRows.{find_next, find_here, ends_here}
use Rattle.report_text.proofs.width.check_widths.Goals as goal

pub returns-in_err-check_width-clause-wide : goal.returns-in_err-check_width-clause-wide
returns-in_err-check_width-clause-wide c =
    let first = first_wide c.args.widths c.args.summary c.args.found.now.items in
    let here : first ≡ Some c.get.result =
    c.loop-place.invariant
    ∙ find_here (is_printed c.args.summary) (is_wide c.args.widths) c.args.found.now.items c.loop-place.place c.get.result
    c.get.ensures.item c.in_err-check_width.ensures.in_print c.in_err-check_width.ensures.wide in
    let ends : EndsAt first c.in_err-check_width.field-0.0 =
    ends_here first c.get.result c.in_err-check_width.field-0.0 here c.in_err-check_width.ensures.end in
    search (rules, ends)

pub loop-place-preserved : goal.loop-place-preserved
loop-place-preserved c =
    c.loop-place.invariant
    ∙ find_next (is_printed c.args.summary) (is_wide c.args.widths) c.args.found.now.items c.loop-place.place c.get.result
    c.get.ensures.item c.in_ok-check_width.ensures.narrow

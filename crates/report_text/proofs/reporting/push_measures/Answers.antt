use Rattle.std.proofs.Common.{arith, append_assoc}
use Rattle.std.proofs.lemmas.Grind.{common_steps}
use Rattle.report_text.specs.Rows.{measure_row}
use Rattle.report_text.specs.Reports.{is_printed}
use Rattle.report_text.proofs.ItemRows.{rows_next}
use Rattle.report_text.proofs.reporting.push_measures.Goals as goal

pub loop-place-preserved : goal.loop-place-preserved
loop-place-preserved c =
    let more = rows_next (measure_row c.args.plan.now) (is_printed c.args.summary) c.args.found.now.items c.loop-place.place
    c.get.result c.get.ensures.item in
    grind (arith, common_steps, more, append_assoc)

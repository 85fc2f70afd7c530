use Rattle.std.proofs.Common.{◌≡◌, ◌++◌, take}
use Rattle.std.specs.List.{flat_map}
use Rattle.report_text.specs.Rows.{measure_row}
use Rattle.report_text.specs.Reports.{printed_items}
use Rattle.report_text.proofs.reporting.push_measures.Given as goal

abbrev pub invariant-loop-place : goal.invariant-loop-place
invariant-loop-place l =
    l.text.items ≡ l.fn.text.items ++ flat_map (measure_row l.plan) (printed_items l.summary (take l.place l.found.items))

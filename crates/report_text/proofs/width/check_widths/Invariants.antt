use Rattle.std.proofs.Common.{◌≡◌, drop}
use Rattle.report_text.specs.TooWide.{first_wide}
use Rattle.report_text.proofs.width.check_widths.Given as goal

abbrev pub invariant-loop-place : goal.invariant-loop-place
invariant-loop-place l =
    first_wide l.widths l.summary l.found.items ≡ first_wide l.widths l.summary (drop l.place l.found.items)

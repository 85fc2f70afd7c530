use Rattle.std.proofs.Common.{◌≡◌, drop}
use Rattle.fleet_text.specs.FleetWidths.{first_wide_ends}
use Rattle.fleet_text.proofs.width.check_widths.Given as goal

abbrev pub invariant-loop-item : goal.invariant-loop-item
invariant-loop-item l =
    first_wide_ends l.widths l.summary l.found ≡ first_wide_ends l.widths l.summary (drop l.item-index l.found)

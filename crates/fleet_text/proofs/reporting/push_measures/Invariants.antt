use Rattle.std.proofs.Common.{◌≡◌, ◌++◌, take}
use Rattle.std.specs.List.{flat_map}
use Rattle.fleet_text.specs.FleetReports.{fleet_row, printed_ends}
use Rattle.fleet_text.proofs.reporting.push_measures.Given as goal

abbrev pub invariant-loop-item : goal.invariant-loop-item
invariant-loop-item l =
    l.text.items ≡ l.fn.text.items ++ flat_map (fleet_row l.fleet) (printed_ends l.summary (take l.item-index l.found))

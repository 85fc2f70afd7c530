use Rattle.std.proofs.Common.{◌≡◌, ◌++◌}
use Rattle.std.specs.List.{flat_map, range_with_len}
use Rattle.fleet_text.specs.CrewRows.{crew_row}
use Rattle.fleet_text.proofs.crew_rows.push_crews.Given as goal

abbrev pub invariant-loop-k : goal.invariant-loop-k
invariant-loop-k l = l.text.items ≡ l.fn.text.items ++ flat_map (crew_row l.fleet) (range_with_len 0 l.k)

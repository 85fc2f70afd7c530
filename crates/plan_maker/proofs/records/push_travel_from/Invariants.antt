use Rattle.std.proofs.Common.{◌≡◌, ◌++◌, take}
use Rattle.std.specs.List.{flat_map}
use Rattle.plan_maker.specs.Rows.{travel_row}
use Rattle.plan_maker.proofs.records.push_travel_from.Given as goal

abbrev pub invariant-loop-to : goal.invariant-loop-to
invariant-loop-to l = l.text.items ≡ l.fn.text.items ++ flat_map (travel_row l.from) (take l.to-index l.atoms)

use Rattle.std.proofs.Common.{◌≡◌, ◌++◌, take}
use Rattle.std.specs.List.{flat_map}
use Rattle.plan_maker.specs.Rows.{travel_row}
use Rattle.plan_maker.proofs.records.push_all_travel.Given as goal

abbrev pub invariant-loop-from : goal.invariant-loop-from
invariant-loop-from l = l.text.items ≡ l.fn.text.items ++ flat_map (λ from. flat_map (travel_row from) l.atoms) (take l.from-index l.atoms)

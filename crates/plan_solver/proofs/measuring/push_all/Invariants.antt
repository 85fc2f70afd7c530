use Rattle.std.proofs.Common.{◌≡◌, ◌+◌, ◌++◌, take}
use Rattle.plan_solver.proofs.measuring.push_all.Given as goal

abbrev pub invariant-loop-item : goal.invariant-loop-item
invariant-loop-item l = record {
  items : l.found.items ≡ l.initial.found.items ++ take l.item-index l.items;
  room : l.found.spare + l.item-index ≡ l.initial.found.spare;
}

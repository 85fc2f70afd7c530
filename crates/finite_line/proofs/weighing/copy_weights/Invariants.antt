use Rattle.std.proofs.Common.{◌≡◌, ◌+◌, take}
use Rattle.finite_line.proofs.weighing.copy_weights.Given as goal

abbrev pub invariant-loop-place : goal.invariant-loop-place
invariant-loop-place l = record {
  items : l.copy.items ≡ take l.place l.weights.items;
  spare : l.copy.spare + l.place ≡ l.initial.copy.spare;
}

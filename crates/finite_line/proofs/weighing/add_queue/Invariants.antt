use Rattle.std.proofs.Common.{◌≡◌, ◌+◌, ◌-◌, ◌≤◌, length}
use Rattle.finite_line.specs.FiniteWeights.{GainsQueue}
use Rattle.finite_line.proofs.weighing.add_queue.Given as goal

abbrev pub invariant-loop-place : goal.invariant-loop-place
invariant-loop-place l = record {
  gains : GainsQueue l.calls l.service l._place l.initial.weights.items l.weights.items;
  some : 1 ≤ length l.weights.items;
  spare : l.weights.spare + l._place ≡ l.initial.weights.spare;
}

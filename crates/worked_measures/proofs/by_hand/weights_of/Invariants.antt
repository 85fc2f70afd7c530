use Rattle.std.proofs.Common.{◌≡◌, ◌+◌, length}
use Rattle.worked_measures.proofs.by_hand.weights_of.Given as goal

abbrev pub invariant-loop-mass : goal.invariant-loop-mass
invariant-loop-mass g l = l.weights.spare + l.mass-index ≡ length l.masses

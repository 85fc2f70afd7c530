use Rattle.state_reduction.proofs.Reductions.{IsUnderWay}
use Rattle.state_reduction.proofs.reduction.reduce_packed.Given as goal

abbrev pub invariant-loop-m : goal.invariant-loop-m
invariant-loop-m l = IsUnderWay l.initial.m l.m l.initial.scratch l.scratch

abbrev pub decreases-loop-m : goal.decreases-loop-m
decreases-loop-m l = l.m.alive

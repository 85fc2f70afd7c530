use Rattle.state_reduction.proofs.Reductions.{IsUnderWay}
use Rattle.state_reduction.proofs.reduction.reduce_rows.Given as goal

abbrev pub invariant-loop-m : goal.invariant-loop-m
invariant-loop-m g l = IsUnderWay l.initial.m l.m l.initial.scratch l.scratch

abbrev pub decreases-loop-m : goal.decreases-loop-m
decreases-loop-m g l = l.m.alive

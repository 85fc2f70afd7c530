use Rattle.std.proofs.Common.{take}
use Rattle.plan_solver.specs.SoundEnclosures.{AreEnclosuresBy}
use Rattle.plan_compare.specs.Solving.{AreSlotsOf}
use Rattle.plan_compare.proofs.slots.in_order.Given as goal

abbrev pub invariant-loop-place : goal.invariant-loop-place
invariant-loop-place g l = record {
  slots : AreSlotsOf l.method l.plans l.slots.items;
  all : AreEnclosuresBy l.method (take l.place l.plans) l.all.items;
}

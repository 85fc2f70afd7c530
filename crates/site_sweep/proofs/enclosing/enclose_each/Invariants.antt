use Rattle.std.proofs.Common.{take}
use Rattle.plan_solver.specs.Enclosures.{AreEnclosuresOf}
use Rattle.site_sweep.proofs.enclosing.enclose_each.Given as goal

abbrev pub invariant-loop-k : goal.invariant-loop-k
invariant-loop-k l = AreEnclosuresOf (take l.k l.plans) l.found.items

use Rattle.std.proofs.Common.{arith}
use Rattle.site_sweep.proofs.PlanValues.{plans_more}
use Rattle.site_sweep.proofs.sweeping.plans_placed.Goals as goal

pub loop-k-preserved : goal.loop-k-preserved
loop-k-preserved c =
    plans_more c.args.plan.now c.args.unit c.args.first c.loop-k.k c.loop-k.plans.items c.push.new.self.items c.in_ok-placed.field-0
    (omega arith) c.loop-k.invariant c.in_ok-placed.ensures c.in_ok-push.ensures.items

use Rattle.plan_solver.proofs.SolvedPlans.{one_more}
use Rattle.site_sweep.proofs.enclosing.enclose_each.Goals as goal

pub loop-k-preserved : goal.loop-k-preserved
loop-k-preserved c =
    one_more c.args.plans.now c.loop-k.k c.index-plans-k.result c.loop-k.found.items c.in_ok-enclose.field-0 c.push.new.self.items
    c.loop-k-test.true c.index-plans-k.is c.loop-k.invariant c.in_ok-enclose.ensures.exact c.in_ok-push.ensures.items

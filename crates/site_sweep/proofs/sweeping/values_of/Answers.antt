use Rattle.std.proofs.Common.{arith, ◌*◌}
use Rattle.site_sweep.proofs.PlanValues.{all_values, batch_next}
use Rattle.site_sweep.proofs.sweeping.values_of.Goals as goal

pub loop-batch-preserved : goal.loop-batch-preserved
loop-batch-preserved g c =
    batch_next c.args.measure c.args.plan.now c.args.unit c.loop-batch.batch (c.loop-batch.batch * 16) c.min-until.result 16
    c.in_ok-plans.plans.items c.loop-batch.values.items c.push_batch.new.values.items
    (omega (arith, c.atoms-atoms.ensures.atoms, c.div_ceil-batch-end.ensures, c.loop-batch-test.true)) (omega arith)
    (omega (arith, c.min-until.ensures, c.atoms-atoms.ensures.atoms)) c.loop-batch.invariant c.in_ok-plans.ensures
    (rw c.deref.ensures.value at c.in_ok-push_batch.ensures)

pub returns : goal.returns
returns g c =
    all_values c.args.measure c.args.plan.now c.args.unit (c.loop-batch.batch * 16) c.loop-batch.values.items
    (omega (arith, c.atoms-atoms.ensures.atoms, c.div_ceil-batch-end.ensures, c.loop-batch-test.false)) c.loop-batch.invariant

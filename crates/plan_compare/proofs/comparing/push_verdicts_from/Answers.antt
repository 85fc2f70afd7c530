use Rattle.plan_compare.proofs.VerdictRows.{row_next}
use Rattle.plan_compare.proofs.comparing.push_verdicts_from.Goals as goal

pub loop-k-preserved : goal.loop-k-preserved
loop-k-preserved c =
    row_next c.args.measure c.args.a c.loop-k.k c.args.verdicts.now _ c.args.text.now.items c.loop-k.text.items
    c.push_verdict.new.text.items c.loop-k-test.true c.loop-k.invariant c.in_ok-push_verdict.ensures

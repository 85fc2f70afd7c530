use Rattle.std.proofs.Common.{sym, ◌∙◌}
use Rattle.pair_dispatch.proofs.PairChains.{only_calls, only_services}
use Rattle.pair_dispatch.proofs.sending.rate_between.Goals as goal

pub returns-then-word-next : goal.returns-then-word-next
returns-then-word-next c =
    c.sending_rate.ensures ∙ sym (only_calls c.args.plan.now c.args.percent c.args.word c.args.next c.if-word-next.true)

pub returns-else-word-next : goal.returns-else-word-next
returns-else-word-next c =
    c.ending_rate.ensures
    ∙ sym (only_services c.args.plan.now c.args.percent c.law_accepted.ensures c.args.word c.args.next c.if-word-next.false)

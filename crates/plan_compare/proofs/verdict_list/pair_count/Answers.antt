use Rattle.std.proofs.Common.{◌*◌, ◌/◌, ◌∙◌, ap, sym}
use Rattle.plan_compare.proofs.Pairs.{pairs_of-length}
use Rattle.plan_compare.proofs.verdict_list.pair_count.Goals as goal

pub returns-clause-pairs : goal.returns-clause-pairs
returns-clause-pairs c m =
    ap (λ k. c.args.plans * k / 2) c.saturating_sub.ensures ∙ sym (pairs_of-length c.args.plans m)

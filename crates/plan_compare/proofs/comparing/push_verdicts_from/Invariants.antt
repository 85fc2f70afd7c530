use Rattle.std.proofs.Common.{◌≡◌, ◌+◌, ◌++◌, take}
use Rattle.plan_compare.specs.Comparisons.{verdict_rows}
use Rattle.plan_compare.specs.Verdicts.{pairs_from}
use Rattle.plan_compare.proofs.comparing.push_verdicts_from.Given as goal

abbrev pub invariant-loop-k : goal.invariant-loop-k
invariant-loop-k l = l.text.items
    ≡ l.fn.text.items ++ verdict_rows (pairs_from (l.a + 1 + l.k) l.measure l.a) (take l.k l.verdicts)

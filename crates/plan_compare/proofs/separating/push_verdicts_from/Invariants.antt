use Rattle.std.proofs.Common.{◌≡◌, ◌+◌, ◌-◌, ◌++◌, map}
use Rattle.plan_compare.specs.Verdicts.{pairs_from, verdict_of}
use Rattle.plan_compare.proofs.separating.push_verdicts_from.Given as goal

abbrev pub invariant-loop-b : goal.invariant-loop-b
invariant-loop-b l = record {
  items : l.out.items ≡ l.fn.out.items ++ map (verdict_of l.found) (pairs_from l.b l.measure l.a);
  spare : l.out.spare + (l.b - (l.a + 1)) ≡ l.fn.out.spare;
}

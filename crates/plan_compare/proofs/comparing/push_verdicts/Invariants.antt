use Rattle.std.proofs.Common.{◌≡◌, ◌-◌, ◌++◌, length}
use Rattle.std.specs.List.{flat_map, range_with_len}
use Rattle.plan_compare.specs.Comparisons.{verdict_rows}
use Rattle.plan_compare.specs.Verdicts.{pairs_from, pairs_of}
use Rattle.plan_compare.proofs.comparing.push_verdicts.Given as goal

abbrev pub invariant-loop-a : goal.invariant-loop-a
invariant-loop-a l = record {
  number : length l.rest ≡ length (flat_map (pairs_from l.plans l.measure) (range_with_len l.a (l.plans - l.a)));
  text : l.text.items ++ verdict_rows (flat_map (pairs_from l.plans l.measure) (range_with_len l.a (l.plans - l.a))) l.rest
      ≡ l.fn.text.items ++ verdict_rows (pairs_of l.plans l.measure) l.verdicts;
}

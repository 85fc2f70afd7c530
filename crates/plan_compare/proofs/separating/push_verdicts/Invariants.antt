use Rattle.std.proofs.Common.{◌≡◌, ◌+◌, ◌++◌, length, map}
use Rattle.std.specs.List.{flat_map, range_with_len}
use Rattle.plan_compare.specs.Verdicts.{pairs_from, verdict_of}
use Rattle.plan_compare.proofs.separating.push_verdicts.Given as goal

abbrev pub invariant-loop-a : goal.invariant-loop-a
invariant-loop-a l = record {
  items : l.out.items
      ≡ l.fn.out.items ++ map (verdict_of l.found) (flat_map (pairs_from (length l.found) l.measure) (range_with_len 0 l.a));
  spare : l.out.spare + length (flat_map (pairs_from (length l.found) l.measure) (range_with_len 0 l.a)) ≡ l.fn.out.spare;
}

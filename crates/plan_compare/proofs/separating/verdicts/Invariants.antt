use Rattle.std.proofs.Common.{◌≡◌, ◌+◌, length, map, take}
use Rattle.std.specs.List.{flat_map}
use Rattle.plan_compare.specs.Verdicts.{pairs_of, verdict_of}
use Rattle.plan_compare.proofs.separating.verdicts.Given as goal

abbrev pub invariant-loop-k : goal.invariant-loop-k
invariant-loop-k l = record {
  items : l.out.items ≡ map (verdict_of l.found) (flat_map (pairs_of (length l.found)) (take l.k l.study.measures));
  spare : l.out.spare + length (flat_map (pairs_of (length l.found)) (take l.k l.study.measures)) ≡ l.fn.out.spare;
}

use Rattle.std.proofs.Common.{◌≡◌, ◌++◌, length, map, take, drop}
use Rattle.std.specs.List.{flat_map}
use Rattle.plan_compare.specs.Comparisons.{measure_rows}
use Rattle.plan_compare.specs.Verdicts.{pairs_of, verdict_of}
use Rattle.plan_compare.proofs.comparing.push_measures.Given as goal

abbrev pub invariant-loop-k : goal.invariant-loop-k
invariant-loop-k l = record {
  rest : l.rest ≡ map (verdict_of l.found) (flat_map (pairs_of (length l.found)) (drop l.k l.study.measures));
  text : l.text.items ≡ l.fn.text.items ++ flat_map (measure_rows l.found) (take l.k l.study.measures);
}

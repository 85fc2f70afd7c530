use Rattle.std.proofs.Common.{◌≡◌, ◌+◌, ◌++◌, length, map}
use Rattle.std.specs.List.{range_with_len}
use Rattle.finite_line.specs.declared.kinds.FiniteMeasure.TheVariants as measure
use Rattle.finite_line.specs.PrintedEnds.{item_of}
use Rattle.finite_line.proofs.enclosing.push_workloads.Given as goal

abbrev pub invariant-loop-unit : goal.invariant-loop-unit
invariant-loop-unit l = record {
  items : l.found ≡ l.initial.found
      ++ map (λ n. item_of l.plan l.places l.weighed.order l.weighed.weights.items (measure.Workload n)) (range_with_len 0 l.unit);
  count : length l.found ≡ length l.initial.found + l.unit;
}

use Rattle.std.proofs.Common.{◌≡◌, ◌++◌, map}
use Rattle.std.specs.List.{range_with_len}
use Rattle.pair_dispatch.specs.PairEnds.{workload_of}
use Rattle.pair_dispatch.proofs.measuring.push_workloads.Given as goal

abbrev pub invariant-loop-unit : goal.invariant-loop-unit
invariant-loop-unit l =
    l.found.items ≡ l.fn.found.items ++ map (workload_of l.plan l.order l.weights.items) (range_with_len 0 l.unit)

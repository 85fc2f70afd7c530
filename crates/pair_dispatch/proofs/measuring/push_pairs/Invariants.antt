use Rattle.std.proofs.Common.{◌≡◌, ◌++◌}
use Rattle.std.specs.List.{flat_map, range_with_len}
use Rattle.pair_dispatch.specs.PairEnds.{pairs_from}
use Rattle.pair_dispatch.proofs.measuring.push_pairs.Given as goal

abbrev pub invariant-loop-first : goal.invariant-loop-first
invariant-loop-first l =
    l.found.items ≡ l.fn.found.items ++ flat_map (pairs_from l.plan l.order l.weights.items) (range_with_len 0 l.first)

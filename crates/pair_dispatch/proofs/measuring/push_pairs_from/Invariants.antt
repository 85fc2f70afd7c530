use Rattle.std.proofs.Common.{◌≡◌, ◌+◌, ◌-◌, ◌++◌, map}
use Rattle.std.specs.List.{range_with_len}
use Rattle.pair_dispatch.specs.PairEnds.{pair_of}
use Rattle.pair_dispatch.proofs.measuring.push_pairs_from.Given as goal

abbrev pub invariant-loop-second : goal.invariant-loop-second
invariant-loop-second l =
    l.found.items
    ≡ l.fn.found.items
    ++ map (pair_of l.plan l.order l.weights.items l.first) (range_with_len (l.first + 1) (l.second - (l.first + 1)))

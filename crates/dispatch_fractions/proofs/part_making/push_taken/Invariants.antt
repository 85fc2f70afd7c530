use Rattle.std.proofs.Common.{◌≡◌, ◌++◌, map}
use Rattle.std.specs.List.{range_with_len}
use Rattle.fixed_interval.specs.WeightList.{ends_at}
use Rattle.busy_words.specs.WeightParts.{taken_part}
use Rattle.dispatch_fractions.proofs.part_making.push_taken.Given as goal

abbrev pub invariant-loop-atom : goal.invariant-loop-atom
invariant-loop-atom l =
    l.taken.items
    ≡ l.initial.taken.items ++ map (taken_part l.plan l.order (ends_at l.weights.items) l.unit) (range_with_len 0 l.atom)

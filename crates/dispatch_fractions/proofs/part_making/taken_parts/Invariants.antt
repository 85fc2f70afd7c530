use Rattle.std.proofs.Common.{◌≡◌}
use Rattle.std.specs.List.{flat_map, range_with_len}
use Rattle.fixed_interval.specs.WeightList.{ends_at}
use Rattle.dispatch_fractions.specs.PartLists.{taken_row}
use Rattle.dispatch_fractions.proofs.part_making.taken_parts.Given as goal

abbrev pub invariant-loop-unit : goal.invariant-loop-unit
invariant-loop-unit l =
    l.taken.items ≡ flat_map (taken_row l.plan l.order (ends_at l.weights.items)) (range_with_len 0 l.unit)

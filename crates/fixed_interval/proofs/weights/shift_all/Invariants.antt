use Rattle.std.proofs.Common.{◌≡◌, ◌++◌, map, take, drop}
use Rattle.fixed_interval.specs.Ends.{shifted_ends}
use Rattle.fixed_interval.proofs.weights.shift_all.Given as goal

abbrev pub invariant-loop-item : goal.invariant-loop-item
invariant-loop-item l =
    l.items ≡ map (shifted_ends l.power) (take l.item-index l.initial.items) ++ drop l.item-index l.initial.items

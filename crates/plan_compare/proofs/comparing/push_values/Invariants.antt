use Rattle.std.proofs.Common.{◌≡◌, ◌++◌}
use Rattle.std.specs.List.{flat_map, range_with_len}
use Rattle.plan_compare.specs.Comparisons.{value_row_at}
use Rattle.plan_compare.proofs.comparing.push_values.Given as goal

abbrev pub invariant-loop-place : goal.invariant-loop-place
invariant-loop-place l =
    l.text.items ≡ l.fn.text.items ++ flat_map (value_row_at l.found l.measure) (range_with_len 0 l.place)

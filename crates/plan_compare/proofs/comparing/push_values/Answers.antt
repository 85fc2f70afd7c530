use Rattle.std.proofs.Common.{◌+◌, ◌++◌, ◌∙◌, ap}
use Rattle.std.specs.List.{flat_map, range_with_len}
use Rattle.plan_compare.specs.Comparisons.{value_row, value_row_at}
use Rattle.text_lines.proofs.Pieces.{one_gained, numbers_next}
use Rattle.plan_compare.proofs.comparing.push_values.Goals as goal

pub loop-place-preserved : goal.loop-place-preserved
loop-place-preserved c =
    let line = value_row_at c.args.found.now c.args.measure in
    let place = c.loop-place.place in
    one_gained c.args.text.now.items c.loop-place.text.items (flat_map line (range_with_len 0 place)) (line place)
    (flat_map line (range_with_len 0 (place + 1))) c.push_value.new.text.items c.loop-place.invariant
    (c.in_ok-push_value.ensures ∙ ap (λ v. c.loop-place.text.items ++ value_row c.args.measure place v) c.value_at.ensures.value)
    (numbers_next line place)

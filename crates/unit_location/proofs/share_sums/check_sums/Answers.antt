use Rattle.std.proofs.Common.{◌<◌, arith}
use Rattle.unit_location.proofs.LocationSteps.{is_not_whole-more, sums_refusal-here}
use Rattle.unit_location.proofs.share_sums.check_sums.Goals as goal

pub returns-then-sum-ne-WHOLE : goal.returns-then-sum-ne-WHOLE
returns-then-sum-ne-WHOLE c =
    let lt : c.loop-unit.unit < c.args.table.now.rows = omega (arith, c.loop-unit-test.true, c.rows-unit-end.ensures.rows) in
    sums_refusal-here c.args.table.now c.loop-unit.unit c.sum_of_row-sum.result lt c.sum_of_row-sum.ensures c.if-sum-ne-WHOLE.true
    c.loop-unit.invariant

pub loop-unit-preserved : goal.loop-unit-preserved
loop-unit-preserved c =
    let lt : c.loop-unit.unit < c.args.table.now.rows = omega (arith, c.loop-unit-test.true, c.rows-unit-end.ensures.rows) in
    is_not_whole-more c.args.table.now c.loop-unit.unit c.sum_of_row-sum.result lt c.sum_of_row-sum.ensures c.if-sum-ne-WHOLE.false
    c.loop-unit.invariant

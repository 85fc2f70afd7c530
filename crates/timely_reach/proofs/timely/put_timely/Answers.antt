use Rattle.std.proofs.Common.{◌∙◌, ◌+◌, ◌*◌, ◌/◌, ◌%◌, sym, ap, ap₂, arith}
use Rattle.std.proofs.lemmas.Nat.{div-add-mod', div_below, mod_below}
use Rattle.timely_reach.proofs.TimelyTables.{some_columns, timely_all, timely_next, timely_none}
use Rattle.timely_reach.proofs.timely.put_timely.Goals as goal

pub get-seconds-requires-clause-row : goal.get-seconds-requires-clause-row
get-seconds-requires-clause-row c =
    let some = some_columns c.rows.result c.cols-cols.result c.loop-place.place c.loop-place-test.true in
    let below = div_below c.loop-place.place c.cols-cols.result c.rows.result some c.loop-place-test.true in
    omega (arith, below, c.rows.ensures.rows, c.loop-place.invariant.rows)

pub get-seconds-requires-clause-col : goal.get-seconds-requires-clause-col
get-seconds-requires-clause-col c =
    let some = some_columns c.rows.result c.cols-cols.result c.loop-place.place c.loop-place-test.true in
    let below = mod_below c.loop-place.place c.cols-cols.result some in
    omega (arith, below, c.cols-cols.ensures.cols, c.loop-place.invariant.cols)

pub loop-place-init : goal.loop-place-init
loop-place-init c = timely_none c.args.limit c.args.table.now

pub loop-place-preserved : goal.loop-place-preserved
loop-place-preserved c =
    let i = c.loop-place.place in
    let cols = c.cols-cols.result in
    let cells = ap₂ (λ r k. r * k) c.rows.ensures.rows c.cols-cols.ensures.cols in
    let place = ap (λ w. i / cols * w + i % cols) (c.loop-place.invariant.cols ∙ sym c.cols-cols.ensures.cols) ∙ div-add-mod' i cols in
    timely_next c.args.limit c.args.table.now c.loop-place.table c.set.new.self i (i / cols) (i % cols) c.timely_seconds.result
    c.get-seconds.result c.loop-place.invariant place
    (omega (arith, c.loop-place-test.true, cells, c.cols-cols.ensures.sized.one_each))
    c.get-seconds.ensures c.timely_seconds.ensures c.set.ensures.table

pub returns : goal.returns
returns c =
    let cells = ap₂ (λ r k. r * k) c.rows.ensures.rows c.cols-cols.ensures.cols in
    timely_all c.args.limit c.args.table.now c.loop-place.table c.loop-place.place
    (omega (arith, c.loop-place-test.false, cells, c.cols-cols.ensures.sized.one_each))
    c.loop-place.invariant

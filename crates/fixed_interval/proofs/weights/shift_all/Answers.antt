use Rattle.std.proofs.lemmas.List.Edits.{map_over_more}
use Rattle.fixed_interval.specs.Ends.{shifted_ends}
use Rattle.fixed_interval.proofs.Shifts.{map-shifted-zero}
use Rattle.fixed_interval.proofs.weights.shift_all.Goals as goal

pub returns-then-power-eq0 : goal.returns-then-power-eq0
returns-then-power-eq0 c = map-shifted-zero c.args.power c.args.items.now c.if-power-eq0.true

pub loop-item-preserved : goal.loop-item-preserved
loop-item-preserved c =
    rw (c.shifted.ensures.ends, ← c.item-item.is)
    (map_over_more (shifted_ends c.args.power) c.args.items.now c.loop-item.items c.loop-item.item-index
    c.item-item.result c.loop-item-test.true c.loop-item.invariant c.item-item.is)

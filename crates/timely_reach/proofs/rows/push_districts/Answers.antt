use Rattle.std.proofs.Common.{◌∷◌, [], List, length, ap, arith, length-append}
use Rattle.hyper_model.proofs.Ranges.{map_more}
use Rattle.timely_reach.specs.declared.kinds.ReachMeasure.TheVariants as measure
use Rattle.timely_reach.specs.declared.kinds.ReachRow.{ReachRow}
use Rattle.timely_reach.specs.ReachRows.{row_of}
use Rattle.timely_reach.proofs.rows.push_districts.Goals as goal

pub loop-unit-preserved : goal.loop-unit-preserved
loop-unit-preserved c = record {
  rows = map_more (λ k. row_of c.args.plan.now c.args.timely.now c.args.parts.now (measure.District k)) c.args.rows.now
      c.loop-unit.rows c.push.new.self c.loop-unit.unit c.in_ok-row_of.field-0 c.loop-unit.invariant.rows c.in_ok-row_of.ensures c.push.ensures;
  count = omega (
    arith,
    ap (λ (l : List ReachRow). length l) c.push.ensures,
    length-append c.loop-unit.rows (c.in_ok-row_of.field-0 ∷ []),
    c.loop-unit.invariant.count,
  );
}

use Rattle.std.proofs.Common.{◌≡◌, ◌+◌, ◌++◌, length, map}
use Rattle.std.specs.List.{range_with_len}
use Rattle.timely_reach.specs.declared.kinds.ReachMeasure.TheVariants as measure
use Rattle.timely_reach.specs.ReachRows.{row_of}
use Rattle.timely_reach.proofs.rows.push_districts.Given as goal

abbrev pub invariant-loop-unit : goal.invariant-loop-unit
invariant-loop-unit l = record {
  rows : l.rows ≡ l.initial.rows ++ map (λ k. row_of l.plan l.timely l.parts (measure.District k)) (range_with_len 0 l.unit);
  count : length l.rows ≡ length l.initial.rows + l.unit;
}

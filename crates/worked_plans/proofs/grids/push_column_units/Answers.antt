use Rattle.std.proofs.Common.{arith, append_assoc}
use Rattle.std.proofs.lemmas.Grind.{common_steps}
use Rattle.worked_plans.specs.Grids.{column_unit_rows}
use Rattle.text_lines.proofs.Pieces.{ordinals_next}
use Rattle.worked_plans.proofs.grids.push_column_units.Goals as goal

pub loop-unit-preserved : goal.loop-unit-preserved
loop-unit-preserved c =
    let next = ordinals_next column_unit_rows c.loop-unit.unit (omega arith) in
    grind (arith, common_steps, next, append_assoc)

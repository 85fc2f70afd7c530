use Rattle.std.proofs.Common.{arith, append_assoc}
use Rattle.std.proofs.lemmas.Grind.{common_steps}
use Rattle.worked_plans.specs.Streets.{street_unit_rows}
use Rattle.text_lines.proofs.Pieces.{ordinals_next}
use Rattle.worked_plans.proofs.streets.push_street_units.Goals as goal

pub loop-n-preserved : goal.loop-n-preserved
loop-n-preserved c =
    let next = ordinals_next street_unit_rows c.loop-n.n (omega arith) in
    grind (arith, common_steps, next, append_assoc)

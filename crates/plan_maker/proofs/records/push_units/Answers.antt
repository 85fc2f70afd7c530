use Rattle.std.proofs.Common.{arith, append_assoc}
use Rattle.std.proofs.lemmas.Grind.{common_steps}
use Rattle.plan_maker.specs.Rows.{unit_row}
use Rattle.text_lines.proofs.Pieces.{ordinals_next}
use Rattle.plan_maker.proofs.records.push_units.Goals as goal

pub loop-n-preserved : goal.loop-n-preserved
loop-n-preserved c =
    let next = ordinals_next unit_row c.loop-n.n (omega arith) in
    grind (arith, common_steps, next, append_assoc)

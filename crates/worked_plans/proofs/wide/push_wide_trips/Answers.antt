use Rattle.std.proofs.Common.{arith, append_assoc}
use Rattle.std.proofs.lemmas.Grind.{common_steps}
use Rattle.worked_plans.specs.Widest.{wide_trip_row}
use Rattle.text_lines.proofs.Pieces.{ordinals_next}
use Rattle.worked_plans.proofs.wide.push_wide_trips.Goals as goal

pub loop-to-preserved : goal.loop-to-preserved
loop-to-preserved c =
    let next = ordinals_next (wide_trip_row c.args.from) c.loop-to.to (omega arith) in
    grind (arith, common_steps, next, append_assoc)

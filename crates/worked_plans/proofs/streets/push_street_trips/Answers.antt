use Rattle.std.proofs.Common.{arith, append_assoc}
use Rattle.std.proofs.lemmas.Grind.{common_steps}
use Rattle.worked_plans.specs.Streets.{street_trip_row}
use Rattle.text_lines.proofs.Pieces.{numbers_next}
use Rattle.worked_plans.proofs.streets.push_street_trips.Goals as goal

pub loop-to-preserved : goal.loop-to-preserved
loop-to-preserved c =
    let next = numbers_next (street_trip_row c.args.from) c.loop-to.to in
    grind (arith, common_steps, next, append_assoc)

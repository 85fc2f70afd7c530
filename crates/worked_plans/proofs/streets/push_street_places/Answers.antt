use Rattle.std.proofs.Common.{arith, append_assoc}
use Rattle.std.proofs.lemmas.Grind.{common_steps}
use Rattle.worked_plans.specs.Streets.{street_place_rows}
use Rattle.text_lines.proofs.Pieces.{numbers_next}
use Rattle.worked_plans.proofs.streets.push_street_places.Goals as goal

pub loop-place-preserved : goal.loop-place-preserved
loop-place-preserved c =
    let next = numbers_next (street_place_rows c.args.atoms) c.loop-place.place in
    grind (arith, common_steps, next, append_assoc)

use Rattle.std.proofs.Common.{arith, append_assoc}
use Rattle.std.proofs.lemmas.Grind.{common_steps}
use Rattle.text_lines.proofs.Pieces.{piece_next}
use Rattle.timely_reach.specs.Rows.{reach_row}
use Rattle.timely_reach.proofs.text.push_rows.Goals as goal

pub loop-place-preserved : goal.loop-place-preserved
loop-place-preserved c =
    let more = piece_next (reach_row c.args.plan.now) c.args.rows.now c.loop-place.place c.get.result.now c.get.ensures in
    grind (arith, common_steps, more, append_assoc)

use Rattle.std.proofs.Common.{arith, append_assoc}
use Rattle.std.proofs.lemmas.Grind.{common_steps}
use Rattle.text_lines.proofs.Pieces.{piece_next}
use Rattle.timely_reach.specs.Rows.{share_field}
use Rattle.timely_reach.proofs.text.push_each.Goals as goal

pub loop-place-preserved : goal.loop-place-preserved
loop-place-preserved c =
    let more = piece_next share_field c.args.ends.now c.loop-place.place c.get.result.now c.get.ensures in
    grind (arith, common_steps, more, append_assoc)

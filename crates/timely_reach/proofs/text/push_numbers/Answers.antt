use Rattle.std.proofs.Common.{arith, append_assoc}
use Rattle.std.proofs.lemmas.Grind.{common_steps}
use Rattle.text_lines.proofs.Pieces.{piece_next}
use Rattle.text_lines.specs.Fields.{number_field}
use Rattle.timely_reach.proofs.text.push_numbers.Goals as goal

pub loop-place-preserved : goal.loop-place-preserved
loop-place-preserved c =
    let more = piece_next number_field c.args.limits.now c.loop-place.place c.get.result.now c.get.ensures in
    grind (arith, common_steps, more, append_assoc)

use Rattle.std.proofs.Common.{arith, append_assoc}
use Rattle.std.proofs.lemmas.Grind.{common_steps}
use Rattle.text_lines.proofs.Pieces.{piece_next}
use Rattle.finite_line.specs.Rows.{finite_row}
use Rattle.finite_line.proofs.text.push_rows.Goals as goal

pub loop-place-preserved : goal.loop-place-preserved
loop-place-preserved c =
    let more = piece_next (finite_row c.args.plan.now) c.args.found.now c.loop-place.place c.get.result.now c.get.ensures in
    grind (arith, common_steps, more, append_assoc)

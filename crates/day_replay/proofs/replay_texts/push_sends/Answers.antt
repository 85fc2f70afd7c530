use Rattle.std.proofs.Common.{◌++◌, take}
use Rattle.std.specs.List.{flat_map}
use Rattle.text_lines.proofs.Pieces.{one_gained, piece_next}
use Rattle.day_replay.specs.Texts.{send_row}
use Rattle.day_replay.proofs.replay_texts.push_sends.Goals as goal

pub loop-place-preserved : goal.loop-place-preserved
loop-place-preserved c =
    let row = send_row c.args.plan.now in
    let sends = c.args.played.now.sends in
    one_gained c.args.text.now.items c.loop-place.text.items (flat_map row (take c.loop-place.place sends)) (row c.get.result) _
    c.push_send.new.text.items c.loop-place.invariant c.in_ok-push_send.ensures
    (piece_next row sends c.loop-place.place c.get.result c.get.ensures)

use Rattle.std.proofs.Common.{◌≡◌, ◌++◌, take}
use Rattle.std.specs.List.{flat_map}
use Rattle.day_replay.specs.Texts.{send_row}
use Rattle.day_replay.proofs.replay_texts.push_sends.Given as goal

abbrev pub invariant-loop-place : goal.invariant-loop-place
invariant-loop-place l = l.text.items ≡ l.fn.text.items ++ flat_map (send_row l.plan) (take l.place l.played.sends)

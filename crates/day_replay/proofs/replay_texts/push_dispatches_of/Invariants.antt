use Rattle.std.proofs.Common.{◌≡◌, ◌++◌}
use Rattle.std.specs.List.{flat_map, range_with_len}
use Rattle.day_replay.specs.Texts.{dispatch_row}
use Rattle.day_replay.proofs.replay_texts.push_dispatches_of.Given as goal

abbrev pub invariant-loop-atom : goal.invariant-loop-atom
invariant-loop-atom l =
    l.text.items ≡ l.fn.text.items ++ flat_map (dispatch_row l.plan l.played l.found.items l.unit) (range_with_len 0 l.atom)

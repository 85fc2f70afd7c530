use Rattle.std.proofs.Common.{◌≡◌, ◌++◌}
use Rattle.std.specs.List.{flat_map, range_with_len}
use Rattle.day_replay.specs.Texts.{dispatch_rows}
use Rattle.day_replay.proofs.replay_texts.push_dispatches.Given as goal

abbrev pub invariant-loop-unit : goal.invariant-loop-unit
invariant-loop-unit l =
    l.text.items ≡ l.fn.text.items ++ flat_map (dispatch_rows l.plan l.played l.found.items) (range_with_len 0 l.unit)

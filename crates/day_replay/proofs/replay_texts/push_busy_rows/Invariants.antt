use Rattle.std.proofs.Common.{◌≡◌, ◌++◌}
use Rattle.std.specs.List.{flat_map, range_with_len}
use Rattle.day_replay.specs.Texts.{busy_row}
use Rattle.day_replay.proofs.replay_texts.push_busy_rows.Given as goal

abbrev pub invariant-loop-unit : goal.invariant-loop-unit
invariant-loop-unit l =
    l.text.items ≡ l.fn.text.items ++ flat_map (busy_row l.plan l.played l.found.items) (range_with_len 0 l.unit)

use Rattle.std.proofs.Common.{◌≡◌, map}
use Rattle.std.specs.List.{range_with_len}
use Rattle.day_replay.specs.Fleets.{busy_time}
use Rattle.day_replay.proofs.busy_times.busy_times.Given as goal

abbrev pub invariant-loop-unit : goal.invariant-loop-unit
invariant-loop-unit l = l.times.items ≡ map (busy_time l.day l.words) (range_with_len 0 l.unit)

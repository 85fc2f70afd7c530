use Rattle.std.proofs.Common.{◌≡◌, take}
use Rattle.day_replay.specs.Counts.{call_count}
use Rattle.day_replay.proofs.replaying.count_calls.Given as goal

abbrev pub invariant-loop-place : goal.invariant-loop-place
invariant-loop-place l = l.calls ≡ call_count (take l.place l.day)

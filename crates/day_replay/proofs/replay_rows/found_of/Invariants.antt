use Rattle.std.proofs.Common.{◌≡◌, drop}
use Rattle.day_replay.specs.Texts.{found_of}
use Rattle.day_replay.proofs.replay_rows.found_of.Given as goal

abbrev pub invariant-loop-place : goal.invariant-loop-place
invariant-loop-place l = found_of l.measure (drop l.place l.found.items) ≡ found_of l.measure l.found.items

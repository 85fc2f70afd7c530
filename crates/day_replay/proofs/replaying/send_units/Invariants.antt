use Rattle.day_replay.proofs.Progress.{HasReached}
use Rattle.day_replay.proofs.replaying.send_units.Given as goal

abbrev pub invariant-loop-place : goal.invariant-loop-place
invariant-loop-place l = HasReached l.plan l.day l.place l.fleet l.words.items

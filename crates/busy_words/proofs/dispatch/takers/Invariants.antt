use Rattle.std.proofs.Common.{◌<◌, ◌^◌}
use Rattle.busy_words.proofs.FirstGroups.{IsCarried}
use Rattle.busy_words.proofs.dispatch.takers.Given as goal

abbrev pub invariant-loop-place : goal.invariant-loop-place
invariant-loop-place l = record {
  carried : IsCarried l.lists l.atom l.word l.place l.takers;
  below : l.takers < 2 ^ l.lists.units;
}

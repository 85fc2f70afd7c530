use Rattle.std.proofs.Common.{◌≡◌, ◌+◌, ◌-◌, length}
use Rattle.plan_text.specs.Reading.{names_at}
use Rattle.plan_text.proofs.Front.{with_front}
use Rattle.plan_text.proofs.reading.names_of.Given as goal

abbrev pub invariant-loop-place : goal.invariant-loop-place
invariant-loop-place l = record {
  size : length l.names + 2 ≡ l.place;
  read : with_front l.names (names_at (length l.row - l.place) l.at l.row l.place) ≡ names_at (length l.row - 2) l.at l.row 2;
}

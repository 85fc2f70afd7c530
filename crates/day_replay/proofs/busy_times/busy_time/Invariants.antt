use Rattle.std.proofs.Common.{◌≡◌, ◌*◌, ◌^◌, ◌≤◌}
use Rattle.std.specs.Prelude.{if◌then◌else◌, slice_index}
use Rattle.hyper_model.specs.Sums.{sum_below}
use Rattle.hyper_model.specs.Words.{is_busy}
use Rattle.day_replay.specs.Counts.{seconds_before}
use Rattle.day_replay.proofs.busy_times.busy_time.Given as goal

abbrev pub invariant-loop-place : goal.invariant-loop-place
invariant-loop-place l = record {
  time : l.time ≡ sum_below l.place (λ place. if is_busy (slice_index l.words place) l.unit then seconds_before l.day place else 0);
  small : l.time ≤ l.place * 2 ^ 32;
}

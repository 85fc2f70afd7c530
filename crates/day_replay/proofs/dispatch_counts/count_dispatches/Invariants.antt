use Rattle.std.proofs.Common.{◌≡◌, ℕ, ◌<◌, take}
use Rattle.hyper_model.specs.Grid.{cell}
use Rattle.hyper_model.specs.Plans.{atoms, units}
use Rattle.day_replay.specs.Fleets.{answer_count}
use Rattle.day_replay.proofs.dispatch_counts.count_dispatches.Given as goal

abbrev pub invariant-loop-answered : goal.invariant-loop-answered
invariant-loop-answered l = record {
  rows : l.table.rows ≡ units l.plan;
  cols : l.table.cols ≡ atoms l.plan;
  counts : (n j : ℕ) → n < units l.plan → j < atoms l.plan
      → cell l.table n j ≡ answer_count (take l.answered-index l.answers) n j;
}

use Rattle.timely_reach.proofs.TimelyTables.{IsTimelyTo}
use Rattle.timely_reach.proofs.timely.put_timely.Given as goal

abbrev pub invariant-loop-place : goal.invariant-loop-place
invariant-loop-place l = IsTimelyTo l.limit l.initial.table l.table l.place

use Rattle.std.proofs.Common.{◌≡◌, length, take}
use Rattle.timely_reach.specs.ReachRows.{timely_plans}
use Rattle.timely_reach.proofs.timely.timely_plans.Given as goal

abbrev pub invariant-loop-place : goal.invariant-loop-place
invariant-loop-place l = record {
  timely : l.timely ≡ timely_plans l.plan (take l.place l.limits);
  count : length l.timely ≡ l.place;
}

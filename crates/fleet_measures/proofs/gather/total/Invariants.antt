use Rattle.std.proofs.Common.{◌≡◌, ◌*◌, ◌^◌, ◌≤◌}
use Rattle.fixed_interval.specs.WeightList.{ends_at}
use Rattle.busy_words.specs.Algebra.{total_ends}
use Rattle.fleet_measures.proofs.gather.total.Given as goal

abbrev pub invariant-loop-place : goal.invariant-loop-place
invariant-loop-place l = record {
  sum : l.total ≡ total_ends l.place (ends_at l.weights.items);
  most : l.total.hi ≤ l.place * 2 ^ 52;
}

use Rattle.std.proofs.Common.{◌≡◌, ◌-◌, ◌*◌, ◌^◌, ◌≤◌}
use Rattle.fixed_interval.specs.WeightList.{ends_at}
use Rattle.busy_words.specs.Parts.{weighed_ends}
use Rattle.finite_line.proofs.sums.queued_sum.Given as goal

abbrev pub invariant-loop-place : goal.invariant-loop-place
invariant-loop-place l = record {
  sum : l.sum ≡ weighed_ends l.place (λ i. i - l.full) (ends_at l.weights.items);
  most : l.sum.hi ≤ l.place * (1000 * 2 ^ 52);
}

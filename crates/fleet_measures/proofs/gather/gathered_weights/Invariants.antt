use Rattle.std.proofs.Common.{◌≡◌, ℕ, ◌+◌, ◌<◌, length}
use Rattle.fixed_interval.specs.Ends.{shifted_ends}
use Rattle.fixed_interval.specs.WeightList.{ends_at}
use Rattle.busy_words.specs.Order.{word_at}
use Rattle.fleet_measures.specs.Pooled.{pooled_weight}
use Rattle.fleet_measures.proofs.gather.gathered_weights.Given as goal

abbrev pub invariant-loop-rank : goal.invariant-loop-rank
invariant-loop-rank l = record {
  count : length l.gathered.items ≡ l.rank;
  spare : l.gathered.spare + l.rank ≡ l.initial.gathered.spare;
  each : (i : ℕ) → i < l.rank
      → ends_at l.gathered.items i ≡ shifted_ends l.power (pooled_weight l.fleet (ends_at l.weights.items) (word_at l.order i));
}

use Rattle.std.proofs.Common.{◌≡◌, ℕ, ◌<◌, length, slice_index}
use Rattle.rate_matrix.specs.WordChains.{rank_level}
use Rattle.rate_matrix.proofs.packed.levels_of.Given as goal

abbrev pub invariant-loop-rank : goal.invariant-loop-rank
invariant-loop-rank l = record {
  count : length l.levels.items ≡ l.rank;
  levels : (i : ℕ) → i < l.rank → slice_index l.levels.items i ≡ rank_level l.chain.plan.now l.chain.order.now i;
}

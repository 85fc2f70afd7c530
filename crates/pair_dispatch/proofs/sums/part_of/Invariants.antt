use Rattle.std.proofs.Common.{◌≡◌, ◌*◌, ◌^◌, ◌≤◌}
use Rattle.fixed_interval.specs.WeightList.{ends_at}
use Rattle.busy_words.specs.Order.{word_at}
use Rattle.busy_words.specs.Parts.{set_ends}
use Rattle.pair_dispatch.specs.PairEnds.{is_member, is_other}
use Rattle.pair_dispatch.proofs.sums.part_of.Given as goal

abbrev pub invariant-loop-rank : goal.invariant-loop-rank
invariant-loop-rank l = record {
  inside : l.inside ≡ set_ends l.rank (λ i. is_member l.plan l.set (word_at l.order i)) (ends_at l.weights.items);
  rest : l.rest ≡ set_ends l.rank (λ i. is_other l.plan l.set (word_at l.order i)) (ends_at l.weights.items);
  most : l.inside.hi ≤ l.rank * 2 ^ 52;
  most_rest : l.rest.hi ≤ l.rank * 2 ^ 52;
}

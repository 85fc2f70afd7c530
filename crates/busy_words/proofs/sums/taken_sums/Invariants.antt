use Rattle.std.proofs.Common.{◌≡◌, ◌*◌, ◌^◌, ◌≤◌}
use Rattle.fixed_interval.specs.WeightList.{ends_at}
use Rattle.busy_words.specs.Order.{word_or_full}
use Rattle.busy_words.specs.Parts.{weighed_ends}
use Rattle.busy_words.specs.WeightParts.{taken_shares, other_shares}
use Rattle.busy_words.proofs.sums.taken_sums.Given as goal

abbrev pub invariant-loop-place : goal.invariant-loop-place
invariant-loop-place l = record {
  inside : l.inside ≡ weighed_ends l.place (λ i. taken_shares l.plan l.unit l.atom (word_or_full l.order i)) (ends_at l.weights.items);
  rest : l.rest ≡ weighed_ends l.place (λ i. other_shares l.plan l.unit l.atom (word_or_full l.order i)) (ends_at l.weights.items);
  most : l.inside.hi ≤ l.place * (l.split * 2 ^ 52);
  most_rest : l.rest.hi ≤ l.place * (l.split * 2 ^ 52);
  room : l.place * (l.split * 2 ^ 52) ≤ l.place * (27720 * 2 ^ 52);
}

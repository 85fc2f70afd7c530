use Rattle.std.proofs.Common.{◌≡◌, ◌*◌, ◌^◌, ◌≤◌, not}
use Rattle.fixed_interval.specs.WeightList.{ends_at}
use Rattle.busy_words.specs.Parts.{is_from_to, set_ends}
use Rattle.busy_words.proofs.sums.part_between.Given as goal

abbrev pub invariant-loop-place : goal.invariant-loop-place
invariant-loop-place l = record {
  inside : l.inside ≡ set_ends l.place (is_from_to l.first l.past) (ends_at l.weights.items);
  rest : l.rest ≡ set_ends l.place (λ i. not (is_from_to l.first l.past i)) (ends_at l.weights.items);
  most : l.inside.hi ≤ l.place * 2 ^ 52;
  most_rest : l.rest.hi ≤ l.place * 2 ^ 52;
}

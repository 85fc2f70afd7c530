use Rattle.std.proofs.Common.{◌≡◌, ◌*◌, ◌^◌, ◌≤◌, not}
use Rattle.fixed_interval.specs.WeightList.{ends_at}
use Rattle.hyper_model.specs.Words.{is_busy}
use Rattle.busy_words.specs.Order.{word_or_full}
use Rattle.busy_words.specs.Parts.{set_ends}
use Rattle.busy_words.proofs.sums.busy_sums.Given as goal

abbrev pub invariant-loop-place : goal.invariant-loop-place
invariant-loop-place l = record {
  inside : l.inside ≡ set_ends l.place (λ i. is_busy (word_or_full l.order i) l.unit) (ends_at l.weights.items);
  rest : l.rest ≡ set_ends l.place (λ i. not (is_busy (word_or_full l.order i) l.unit)) (ends_at l.weights.items);
  most : l.inside.hi ≤ l.place * 2 ^ 52;
  most_rest : l.rest.hi ≤ l.place * 2 ^ 52;
}

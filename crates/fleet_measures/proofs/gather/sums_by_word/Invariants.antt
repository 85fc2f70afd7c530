use Rattle.std.proofs.Common.{◌≡◌, ℕ, ◌*◌, ◌^◌, ◌<◌, ◌≤◌, eqb, length}
use Rattle.fixed_interval.specs.WeightList.{ends_at}
use Rattle.busy_words.specs.Parts.{set_ends}
use Rattle.crew_stations.specs.Stations.{stations}
use Rattle.fleet_measures.specs.Pooled.{exhausted_word}
use Rattle.fleet_measures.proofs.gather.sums_by_word.Given as goal

abbrev pub invariant-loop-state : goal.invariant-loop-state
invariant-loop-state l = record {
  count : length l.sums.items ≡ 2 ^ stations l.fleet;
  sums : (word : ℕ) → word < 2 ^ stations l.fleet
      → ends_at l.sums.items word ≡ set_ends l.state (λ a. eqb (exhausted_word l.fleet a) word) (ends_at l.weights.items);
  most : (word : ℕ) → word < 2 ^ stations l.fleet → (ends_at l.sums.items word).hi ≤ l.state * 2 ^ 52;
}

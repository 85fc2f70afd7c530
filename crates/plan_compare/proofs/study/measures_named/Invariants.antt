use Rattle.std.proofs.Common.{◌≡◌, ℕ, ◌<◌, true, [], map, length, get_or, take, string_bytes}
use Rattle.std.specs.Prelude.{All, filter_map, is_some}
use Rattle.hyper_model.specs.Measures.{is_of_region, measure_named}
use Rattle.plan_compare.proofs.study.measures_named.Given as goal

abbrev pub invariant-loop-place : goal.invariant-loop-place
invariant-loop-place l = record {
  known : (k : ℕ) → k < l.place → is_some (measure_named (get_or (map string_bytes l.words) k [])) ≡ true;
  measures : l.measures.items ≡ filter_map measure_named (take l.place (map string_bytes l.words));
  number : length l.measures.items ≡ l.place;
  region : All (λ m. is_of_region m ≡ true) l.measures.items;
}

use Rattle.std.proofs.Common.{◌≡◌, ℕ, ◌++◌, ◌<◌, map, All}
use Rattle.std.specs.List.{range_with_len}
use Rattle.hyper_model.specs.declared.kinds.Enclosed.{Enclosed}
use Rattle.hyper_model.specs.Enclosures.{IsOrderedEnclosed}
use Rattle.hyper_model.proofs.place_list.push_each.Given as goal

abbrev pub invariant-loop-place : goal.invariant-loop-place
invariant-loop-place g l = record {
  exact : (each : ℕ → Enclosed) → ((i : ℕ) (e : Enclosed) → i < l.count → goal.F-post g l.find i e → e ≡ each i)
      → l.found.items ≡ l.initial.found.items ++ map each (range_with_len 0 l.place);
  ordered : All IsOrderedEnclosed l.found.items;
}

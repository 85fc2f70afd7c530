use Rattle.std.proofs.Common.{◌≡◌, ◌++◌, map, take}
use Rattle.hyper_model.specs.Enclosures.{EnclosureList}
use Rattle.hyper_model.specs.Values.{value_in}
use Rattle.site_sweep.proofs.sweeping.push_values.Given as goal

abbrev pub invariant-loop-list : goal.invariant-loop-list
invariant-loop-list l =
    l.values.items ≡ l.initial.values.items ++ map (λ (list : EnclosureList). value_in l.measure list.items) (take l.list-index l.found)

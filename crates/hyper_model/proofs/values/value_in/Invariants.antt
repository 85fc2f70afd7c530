use Rattle.std.proofs.Common.{◌≡◌, drop}
use Rattle.hyper_model.specs.Values.{value_in}
use Rattle.hyper_model.proofs.values.value_in.Given as goal

abbrev pub invariant-loop-place : goal.invariant-loop-place
invariant-loop-place l = value_in l.measure l.list.items ≡ value_in l.measure (drop l.place l.list.items)

use Rattle.std.proofs.Common.{◌≡◌, drop}
use Rattle.std.specs.List.{list_any}
use Rattle.plan_reader.specs.Crews.{gives_crews}
use Rattle.plan_reader.proofs.crews.are_given.Given as goal

abbrev pub invariant-loop-item : goal.invariant-loop-item
invariant-loop-item l = list_any (gives_crews l.name) (drop l.item-index l.records) ≡ list_any (gives_crews l.name) l.records

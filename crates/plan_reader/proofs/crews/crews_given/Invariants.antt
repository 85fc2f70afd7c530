use Rattle.std.proofs.Common.{◌≡◌, drop}
use Rattle.plan_reader.specs.Settings.{first_value}
use Rattle.plan_reader.specs.Crews.{count_for}
use Rattle.plan_reader.proofs.crews.crews_given.Given as goal

abbrev pub invariant-loop-item : goal.invariant-loop-item
invariant-loop-item l = first_value (count_for l.name) (drop l.item-index l.records) ≡ first_value (count_for l.name) l.records

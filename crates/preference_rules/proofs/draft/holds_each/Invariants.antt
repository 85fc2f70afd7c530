use Rattle.std.proofs.Common.{◌≡◌}
use Rattle.std.specs.Prelude.{◌==◌, if◌then◌else◌}
use Rattle.hyper_model.specs.Acceptance.{places_in}
use Rattle.hyper_model.specs.Sums.{sum_below}
use Rattle.preference_rules.proofs.draft.holds_each.Given as goal

abbrev pub invariant-loop-unit : goal.invariant-loop-unit
invariant-loop-unit l = sum_below l.unit (λ n. if places_in l.list.items n == 1 then 0 else 1) ≡ 0

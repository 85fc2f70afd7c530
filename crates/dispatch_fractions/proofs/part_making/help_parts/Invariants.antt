use Rattle.std.proofs.Common.{◌≡◌, map}
use Rattle.std.specs.List.{range_with_len}
use Rattle.fixed_interval.specs.Ends.{ratio_ends}
use Rattle.hyper_model.specs.Plans.{service_of, all_service}
use Rattle.dispatch_fractions.proofs.part_making.help_parts.Given as goal

abbrev pub invariant-loop-unit : goal.invariant-loop-unit
invariant-loop-unit l =
    l.help.items ≡ map (λ n. ratio_ends l.fn.waiting (service_of l.plan n) (all_service l.plan)) (range_with_len 0 l.unit)

use Rattle.std.proofs.Common.{◌<◌, ap, ap₂, ◌∙◌, arith}
use Rattle.fixed_interval.specs.Ends.{ratio_ends}
use Rattle.hyper_model.specs.declared.parts.Unit as declared_unit
use Rattle.hyper_model.specs.Plans.{units, service_of, all_service}
use Rattle.dispatch_fractions.proofs.Holding.{service_part}
use Rattle.hyper_model.proofs.Ranges.{list_more}
use Rattle.dispatch_fractions.proofs.part_making.help_parts.Goals as goal

pub help_part-requires-clause-part : goal.help_part-requires-clause-part
help_part-requires-clause-part c =
    let inside : c.loop-unit.unit < units c.args.plan.now = omega (arith, c.units-unit-end.ensures.units) in
    omega (
      arith,
      service_part c.args.plan.now c.loop-unit.unit inside,
      ap (λ (unit : declared_unit.Unit). unit.rate) c.unit.ensures.unit,
      c.service-service.ensures.service,
    )

pub loop-unit-preserved : goal.loop-unit-preserved
loop-unit-preserved c =
    list_more (λ n. ratio_ends c.args.waiting (service_of c.args.plan.now n) (all_service c.args.plan.now))
    c.loop-unit.help.items c.push.new.self.items c.loop-unit.unit c.help_part.result c.loop-unit.invariant
    (c.help_part.ensures
    ∙ ap₂ (λ rate service. ratio_ends c.args.waiting rate service)
    (ap (λ (unit : declared_unit.Unit). unit.rate) c.unit.ensures.unit) c.service-service.ensures.service)
    c.in_ok-push.ensures.items

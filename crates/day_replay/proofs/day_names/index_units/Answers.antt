use Rattle.std.proofs.Common.{◌∙◌, ap, arith}
use Rattle.hyper_model.specs.declared.parts.Unit as declared_unit
use Rattle.day_replay.proofs.OwnNames.{unit_fresh}
use Rattle.day_replay.proofs.day_names.index_units.Goals as goal

pub push-requires : goal.push-requires
push-requires c =
    unit_fresh c.args.plan.now c.loop-n.n c.loop-n.names c.in_ok-copied.field-0 c.law_accepted.ensures
    (omega (arith, c.loop-n-test.true, c.units-n-end.ensures.units)) c.loop-n.invariant
    (c.in_ok-copied.ensures ∙ ap (λ (u : declared_unit.Unit). u.name) c.unit.ensures.unit)

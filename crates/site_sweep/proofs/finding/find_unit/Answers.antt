use Rattle.std.proofs.Common.{◌∙◌, sym, arith}
use Rattle.site_sweep.proofs.NamedUnits.{unit_found, unit_missing}
use Rattle.site_sweep.proofs.finding.find_unit.Goals as goal

pub returns-then-has_name-clause-unit : goal.returns-then-has_name-clause-unit
returns-then-has_name-clause-unit c =
    unit_found c.args.plan.now c.args.name.now c.loop-n.n (omega (arith, c.units-n-end.ensures.units, c.loop-n-test.true)) c.loop-n.invariant
    (sym c.has_name.ensures ∙ c.if-has_name.true)

pub returns-clause-unit : goal.returns-clause-unit
returns-clause-unit c =
    unit_missing c.args.plan.now c.args.name.now
    (λ k l. c.loop-n.invariant k (omega (arith, c.units-n-end.ensures.units, c.loop-n-test.false)))

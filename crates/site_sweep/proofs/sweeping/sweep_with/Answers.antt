use Rattle.std.proofs.Common.{arith}
use Rattle.std.proofs.lemmas.Result.{IfOk-weaker}
use Rattle.site_sweep.proofs.PlanValues.{one_for_each}
use Rattle.site_sweep.proofs.sweeping.sweep_with.Goals as goal

pub of-requires : goal.of-requires
of-requires g c =
    omega (
      arith,
      one_for_each c.args.measure c.args.plan.now c.args.unit c.in_ok-values.values.items c.in_ok-values.ensures,
      c.law_accepted.ensures.atoms.number.high,
    )

pub returns : goal.returns
returns g c =
    IfOk-weaker c.of.result _ _
    (λ sites is. record { values = c.in_ok-values.values.items; enclosed = c.in_ok-values.ensures; exact = is })
    (rw c.deref.ensures.value at c.of.ensures)

use Rattle.std.proofs.Common.{rules}
use Rattle.std.proofs.lemmas.Result.{IfOk-weaker}
use Rattle.plan_solver.specs.Enclosures.{AreEnclosuresOf}
use Rattle.site_sweep.proofs.PlanValues.{enclosed_values}
use Rattle.site_sweep.proofs.sweeping.push_batch.Goals as goal

pub returns : goal.returns
returns g c =
    let enclosed : AreEnclosuresOf c.args.plans.now c.in_ok-found.found.items = search rules in
    IfOk-weaker c.push_values.result _ _
    (λ _ is. record {
      more = _;
      enclosed = enclosed_values c.args.measure c.args.plans.now c.in_ok-found.found.items enclosed;
      gained = is;
    })
    (rw c.deref.ensures.value at c.push_values.ensures)

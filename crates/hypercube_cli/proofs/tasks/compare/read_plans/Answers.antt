use Rattle.std.proofs.Common.{rules, ◌≡◌, ◌++◌, [], ◌∷◌, length, refl, ap, ◌∙◌, sym, arith, length-append}
use Rattle.std.proofs.lemmas.List.Elements.{All-nil, All-push, Contains-get_or}
use Rattle.std.proofs.lemmas.Result.{err_from_is_err_and}
use Rattle.hyper_model.specs.Plans.{IsAccepted}
use Rattle.hypercube_cli.specs.declared.stop.Stop.TheVariants as stop
use Rattle.hypercube_cli.specs.Stops.{ending_at}
use Rattle.hypercube_cli.proofs.Faults.{rose_before, same_error}
use Rattle.hypercube_cli.proofs.ReadPlans.{all_read, next_read, next_stops, none_read}
use Rattle.hypercube_cli.proofs.tasks.compare.read_plans.Goals as goal

pub loop-i-init : goal.loop-i-init
loop-i-init g c =
    let none : c.new-plans.result.items ≡ [] = search rules in
    record {
      told = refl;
      count = omega arith;
      accepted = rw none (All-nil IsAccepted);
      one_each = rw none refl;
      read = rw none (none_read (g.S.Shelf.told c.args.shelf.now) c.args.study.now.plans);
    }

pub returns-in_err-plan-clause-plans : goal.returns-in_err-plan-clause-plans
returns-in_err-plan-clause-plans g c =
    let p = err_from_is_err_and c.from_residual.result c.from_residual.ensures.1 in
    rw (p.1, p.2)
    (next_stops (g.S.Shelf.told c.args.shelf.now) c.args.study.now.plans c.loop-i.i _ c.plan_name.result.now
    c.loop-i.plans.items (ending_at c.in_err-plan.field-0.0) (omega (arith, c.plans-i-end.ensures.number, c.loop-i-test.true)) (search rules)
    c.plan_name.ensures.name c.loop-i.invariant.read
    (rw c.loop-i.invariant.told at c.in_err-plan.ensures.content))

pub returns-in_err-plan-clause-fault : goal.returns-in_err-plan-clause-fault
returns-in_err-plan-clause-fault g c is =
    let p = err_from_is_err_and c.from_residual.result c.from_residual.ensures.1 in
    let same : c.in_err-plan.field-0.0 ≡ stop.ReadFault = sym p.2 ∙ same_error c.from_residual.result p.0 stop.ReadFault p.1 is in
    let fault = c.in_err-plan.ensures.fault (rw same refl) in (
      rose_before g.S.Shelf.last_count _ _ _ c.loop-i.invariant.count fault.0,
      rw fault.1 (rw c.plan_name.ensures.name
          (Contains-get_or c.args.study.now.plans c.loop-i.i [] (omega (arith, c.plans-i-end.ensures.number, c.loop-i-test.true)))),
    )

pub loop-i-preserved : goal.loop-i-preserved
loop-i-preserved g c =
    let pushed : c.push.new.self.items ≡ c.loop-i.plans.items ++ c.in_ok-plan.plan ∷ [] = search rules in
    record {
      told = c.read_named.ensures.told ∙ c.loop-i.invariant.told;
      count = omega (arith, c.loop-i.invariant.count, c.read_named.ensures.count);
      accepted = rw pushed
          (All-push IsAccepted c.loop-i.plans.items c.in_ok-plan.plan c.loop-i.invariant.accepted c.law_accepted.ensures);
      one_each = omega (arith, ap (λ (ps : _). length ps) pushed, length-append c.loop-i.plans.items (c.in_ok-plan.plan ∷ []), c.loop-i.invariant.one_each);
      read = rw pushed
          (next_read (g.S.Shelf.told c.args.shelf.now) c.args.study.now.plans c.loop-i.i _ c.plan_name.result.now
          c.loop-i.plans.items c.in_ok-plan.plan (omega (arith, c.plans-i-end.ensures.number, c.loop-i-test.true))
          (search rules) c.plan_name.ensures.name c.loop-i.invariant.read
          (rw c.loop-i.invariant.told at c.in_ok-plan.ensures.content));
    }

pub returns-clause-plans : goal.returns-clause-plans
returns-clause-plans g c =
    all_read (g.S.Shelf.told c.args.shelf.now) c.args.study.now.plans c.loop-i.i c.loop-i.plans.items
    (omega (arith, c.plans-i-end.ensures.number, c.loop-i-test.false)) c.loop-i.invariant.read

use Rattle.std.proofs.Common.{◌≡◌, ◌≤◌, All, length}
use Rattle.std.specs.Prelude.{IfSome}
use Rattle.hyper_model.specs.Plans.{IsAccepted}
use Rattle.hypercube_cli.proofs.ReadPlans.{AreReadTo}
use Rattle.hypercube_cli.proofs.tasks.compare.read_plans.Given as goal

abbrev pub invariant-loop-i : goal.invariant-loop-i
invariant-loop-i g l = record {
  told : g.S.Shelf.told l.shelf ≡ g.S.Shelf.told l.initial.shelf;
  count : g.S.Shelf.faults l.initial.shelf ≤ g.S.Shelf.faults l.shelf;
  accepted : All IsAccepted l.plans.items;
  one_each : length l.plans.items ≡ l.i;
  read : IfSome (g.S.Shelf.told l.initial.shelf) (λ texts. AreReadTo texts l.study.plans l.i l.plans.items);
}

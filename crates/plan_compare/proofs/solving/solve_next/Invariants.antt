use Rattle.plan_compare.specs.Solving.{AreSolvedOf}
use Rattle.plan_compare.proofs.solving.solve_next.Given as goal

abbrev pub invariant-loop : goal.invariant-loop
invariant-loop g l = AreSolvedOf l.method l.plans l.solved.items

use Rattle.hyper_model.specs.Acceptance.{AreGrouped}
use Rattle.hyper_model.proofs.acceptance_tables.are_grouped.Given as goal

abbrev pub invariant-loop-j : goal.invariant-loop-j
invariant-loop-j l = AreGrouped l.lists l.j

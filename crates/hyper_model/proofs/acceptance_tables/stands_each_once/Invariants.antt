use Rattle.hyper_model.specs.Acceptance.{EachStandsOnce}
use Rattle.hyper_model.proofs.acceptance_tables.stands_each_once.Given as goal

abbrev pub invariant-loop-unit : goal.invariant-loop-unit
invariant-loop-unit l = EachStandsOnce l.unit l.list

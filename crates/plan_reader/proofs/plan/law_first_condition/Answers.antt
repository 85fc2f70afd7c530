use Rattle.plan_reader.proofs.FirstCondition.{first_condition, first_condition-only, no_condition}
use Rattle.plan_reader.proofs.plan.law_first_condition.Goals as goal

pub returns : goal.returns
returns c = record { first = first_condition; only = first_condition-only; none = no_condition }

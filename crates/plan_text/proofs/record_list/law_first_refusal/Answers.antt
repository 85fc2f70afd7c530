use Rattle.plan_text.proofs.RowByRow.{first_refused}
use Rattle.plan_text.proofs.record_list.law_first_refusal.Goals as goal

pub returns : goal.returns
returns c = first_refused

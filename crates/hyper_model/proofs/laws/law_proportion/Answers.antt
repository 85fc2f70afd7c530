use Rattle.hyper_model.proofs.OneValue.{have_one_value}
use Rattle.hyper_model.proofs.PlanLaws.{words_are_proportional, tail_is_proportional}
use Rattle.hyper_model.proofs.laws.law_proportion.Goals as goal

pub returns : goal.returns
returns c = record {
  words = words_are_proportional c.args.plan.now c.law_accepted.ensures;
  waiting = tail_is_proportional c.args.plan.now c.law_accepted.ensures;
  measures = have_one_value c.args.plan.now c.law_accepted.ensures;
}

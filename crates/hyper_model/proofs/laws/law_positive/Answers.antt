use Rattle.hyper_model.proofs.Denominators.{denominator_positive}
use Rattle.hyper_model.proofs.PlanLaws.{words_are_positive, tail_is_positive}
use Rattle.hyper_model.proofs.laws.law_positive.Goals as goal

pub returns : goal.returns
returns c = record {
  words = words_are_positive c.args.plan.now c.law_accepted.ensures;
  waiting = tail_is_positive c.args.plan.now c.law_accepted.ensures;
  measures = denominator_positive c.args.plan.now c.law_accepted.ensures;
}

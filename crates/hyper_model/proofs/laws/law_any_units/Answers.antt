use Rattle.hyper_model.proofs.Denominators.{denominator_positive}
use Rattle.hyper_model.proofs.Levels.{has_levels}
use Rattle.hyper_model.proofs.OneValue.{have_one_value}
use Rattle.hyper_model.proofs.PlanLaws.{has_solution, words_are_positive, tail_is_positive, words_are_proportional, tail_is_proportional}
use Rattle.hyper_model.proofs.WaitingPlaces.{has_tail}
use Rattle.hyper_model.proofs.laws.law_any_units.Goals as goal

pub returns : goal.returns
returns c = record {
  existence = λ most p a. has_solution p a;
  words_positive = λ most p a. words_are_positive p a;
  waiting_positive = λ most p a. tail_is_positive p a;
  denominators = λ most p a. denominator_positive p a;
  words_proportional = λ most p a. words_are_proportional p a;
  waiting_proportional = λ most p a. tail_is_proportional p a;
  one_value = λ most p a. have_one_value p a;
  tail = λ most p a. has_tail p;
  levels = λ most p a. has_levels p a;
}

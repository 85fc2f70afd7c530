use Rattle.finite_line.proofs.Existence.{has_finite_solution}
use Rattle.finite_line.proofs.QueueMasses.{denominators_positive}
use Rattle.finite_line.proofs.laws.law_finite.Goals as goal

pub returns : goal.returns
returns c = record {
  solvable = λ room some. has_finite_solution c.args.plan.now c.law_accepted.ensures room some;
  positive = denominators_positive c.args.plan.now c.law_accepted.ensures;
}

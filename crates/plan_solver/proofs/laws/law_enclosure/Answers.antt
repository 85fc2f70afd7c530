use Rattle.plan_solver.proofs.AllMeasures.{enclosure_contains, enclosure_in_range, one_enclosure}
use Rattle.plan_solver.proofs.laws.law_enclosure.Goals as goal

pub returns : goal.returns
returns c = record { alone = λ p found is others. one_enclosure p found others is; contains = enclosure_contains; in_range = enclosure_in_range }

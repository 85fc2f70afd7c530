use Rattle.std.proofs.Common.{arith}
use Rattle.std.proofs.lemmas.Grind.{common_steps}
use Rattle.fixed_interval.proofs.Rounding.{encloses_shifted}
use Rattle.fixed_interval.proofs.wide.Wide.shifted.Goals as goal

pub returns-clause-encloses : goal.returns-clause-encloses
returns-clause-encloses c = encloses_shifted c.args.self _ c.args.h (grind (arith, common_steps))

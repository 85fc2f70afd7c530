use Rattle.std.proofs.Common.{rules}
use Rattle.fixed_interval.proofs.Rounding.{encloses_scaled}
use Rattle.fixed_interval.proofs.wide.Wide.scaled.Goals as goal

pub returns-clause-encloses : goal.returns-clause-encloses
returns-clause-encloses c = encloses_scaled c.args.self _ c.args.k (search rules)

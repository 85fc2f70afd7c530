use Rattle.std.proofs.Common.{rules}
use Rattle.fixed_interval.proofs.Rounding.{encloses_quotient}
use Rattle.fixed_interval.proofs.wide.Wide.over.Goals as goal

pub returns-clause-encloses : goal.returns-clause-encloses
returns-clause-encloses c = encloses_quotient c.args.self c.args.d _ c.args.cap (search rules)

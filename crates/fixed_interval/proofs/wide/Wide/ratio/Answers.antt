use Rattle.std.proofs.Common.{rules}
use Rattle.fixed_interval.proofs.Rounding.{encloses_ratio}
use Rattle.fixed_interval.proofs.wide.Wide.ratio.Goals as goal

pub returns-clause-encloses : goal.returns-clause-encloses
returns-clause-encloses c = encloses_ratio c.args.self _ c.args.a c.args.b (search rules) (search rules)

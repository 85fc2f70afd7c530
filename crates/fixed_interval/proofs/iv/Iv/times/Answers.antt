use Rattle.std.proofs.Common.{rules}
use Rattle.fixed_interval.proofs.Rounding.{encloses_product}
use Rattle.fixed_interval.proofs.iv.Iv.times.Goals as goal

pub returns-clause-encloses : goal.returns-clause-encloses
returns-clause-encloses c = encloses_product c.args.self c.args.other _ (search rules)

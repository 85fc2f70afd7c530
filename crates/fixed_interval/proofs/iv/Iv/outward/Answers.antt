use Rattle.std.proofs.Common.{rules}
use Rattle.fixed_interval.proofs.Rounding.{encloses_outward}
use Rattle.fixed_interval.proofs.iv.Iv.outward.Goals as goal

pub returns-clause-encloses : goal.returns-clause-encloses
returns-clause-encloses c = encloses_outward c.args.self _ c.args.unit (search rules)

use Rattle.std.proofs.Common.{rules}
use Rattle.fixed_interval.proofs.Rounding.{encloses_plus_capped}
use Rattle.fixed_interval.proofs.iv.Iv.plus_capped.Goals as goal

pub returns-clause-encloses : goal.returns-clause-encloses
returns-clause-encloses c = encloses_plus_capped c.args.self c.args.other _ c.args.cap (search rules)

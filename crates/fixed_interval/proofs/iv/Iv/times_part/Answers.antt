use Rattle.std.proofs.Common.{rules}
use Rattle.fixed_interval.proofs.Rounding.{encloses_times_part}
use Rattle.fixed_interval.proofs.iv.Iv.times_part.Goals as goal

pub returns-clause-encloses : goal.returns-clause-encloses
returns-clause-encloses c = encloses_times_part c.args.self c.args.part _ (search rules)

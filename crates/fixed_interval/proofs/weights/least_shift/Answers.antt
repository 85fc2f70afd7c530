use Rattle.fixed_interval.proofs.Shifts.{leading_zeros-in_range, leading_zeros-least}
use Rattle.fixed_interval.proofs.weights.least_shift.Goals as goal

pub overflow_sub-result-3 : goal.overflow_sub-result-3
overflow_sub-result-3 c = (leading_zeros-in_range c.args.high c.if-high.false c.requires).0

pub returns-clause-least : goal.returns-clause-least
returns-clause-least c = leading_zeros-least c.args.high c.if-high.false c.requires

pub returns-clause-in_range : goal.returns-clause-in_range
returns-clause-in_range c = (leading_zeros-in_range c.args.high c.if-high.false c.requires).1

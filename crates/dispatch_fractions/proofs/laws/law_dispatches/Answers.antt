use Rattle.dispatch_fractions.proofs.Contain.{dispatches_contained, dispatches_in_range, dispatches_without}
use Rattle.dispatch_fractions.proofs.laws.law_dispatches.Goals as goal

pub returns : goal.returns
returns c = record { contains = dispatches_contained; in_range = dispatches_in_range; without = dispatches_without }

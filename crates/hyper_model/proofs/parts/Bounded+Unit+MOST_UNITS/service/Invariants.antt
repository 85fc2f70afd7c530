use Rattle.std.proofs.Common.{◌≡◌, ◌*◌, ◌^◌, ◌≤◌, get_or}
use Rattle.hyper_model.specs.Sums.{sum_below}
use Rattle.hyper_model.specs.Plans.{no_unit}
use Rattle.hyper_model.proofs.parts.Bounded+Unit+MOST_UNITS.service.Given as goal

abbrev pub invariant-loop-n : goal.invariant-loop-n
invariant-loop-n l = (l.total ≡ sum_below l.n (λ n. (get_or l.self n no_unit).rate)) × (l.total ≤ l.n * 2 ^ 32)

use Rattle.std.proofs.Common.{◌<◌, ℕ}
use Rattle.hyper_model.specs.Plans.{service_of, IsBetween}
use Rattle.hyper_model.proofs.acceptance.has_unit_rates.Given as goal

abbrev pub invariant-loop-n : goal.invariant-loop-n
invariant-loop-n l = (n : ℕ) → n < l.n → IsBetween 1 1000000 (service_of l.parts n)

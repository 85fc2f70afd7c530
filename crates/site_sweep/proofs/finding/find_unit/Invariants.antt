use Rattle.std.proofs.Common.{◌≡◌, ℕ, ◌<◌, false}
use Rattle.std.specs.Str.{bytes_eq}
use Rattle.hyper_model.specs.Plans.{unit_name}
use Rattle.site_sweep.proofs.finding.find_unit.Given as goal

abbrev pub invariant-loop-n : goal.invariant-loop-n
invariant-loop-n l = (k : ℕ) → k < l.n → bytes_eq (unit_name l.plan k) l.name ≡ false

use Rattle.std.proofs.Common.{◌<◌, ℕ}
use Rattle.hyper_model.specs.Acceptance.{IsRowWithin}
use Rattle.hyper_model.proofs.acceptance_tables.are_within.Given as goal

abbrev pub invariant-loop-r : goal.invariant-loop-r
invariant-loop-r l = (r : ℕ) → r < l.r → IsRowWithin l.table r

use Rattle.std.proofs.Common.{◌≡◌, ℕ, ◌<◌, true}
use Rattle.hyper_model.specs.Plans.{are_single, groups_of}
use Rattle.pair_dispatch.proofs.check.check_groups.Given as goal

abbrev pub invariant-loop-atom : goal.invariant-loop-atom
invariant-loop-atom l = (j : ℕ) → j < l.atom → are_single (groups_of l.plan j) ≡ true

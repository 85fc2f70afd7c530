use Rattle.std.proofs.Common.{◌≡◌, true}
use Rattle.hyper_model.specs.Plans.{all_below, are_single, groups_of}
use Rattle.hyper_model.proofs.plan_sums.split_of.Given as goal

abbrev pub invariant-loop-j : goal.invariant-loop-j
invariant-loop-j l = all_below l.j (λ j. are_single (groups_of l.parts j)) ≡ true

use Rattle.std.proofs.Common.{◌≡◌, ◌-◌}
use Rattle.site_sweep.specs.Sites.{placed_from}
use Rattle.site_sweep.proofs.sweeping.plans_placed.Given as goal

abbrev pub invariant-loop-k : goal.invariant-loop-k
invariant-loop-k l = l.plans.items ≡ placed_from l.plan l.unit l.first (l.k - l.first)

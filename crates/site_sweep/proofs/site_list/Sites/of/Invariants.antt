use Rattle.std.proofs.Common.{◌≡◌, map}
use Rattle.std.specs.List.{range_with_len}
use Rattle.site_sweep.specs.Sites.{site_at}
use Rattle.site_sweep.proofs.site_list.Sites.of.Given as goal

abbrev pub invariant-loop-k : goal.invariant-loop-k
invariant-loop-k l = l.items.items ≡ map (site_at l.values) (range_with_len 0 l.k)

use Rattle.std.proofs.Common.{◌≡◌, map}
use Rattle.std.specs.List.{range_with_len}
use Rattle.fleet_measures.specs.Pooled.{pooled_unit}
use Rattle.fleet_measures.proofs.pool.pooled_units.Given as goal

abbrev pub invariant-loop-k : goal.invariant-loop-k
invariant-loop-k l = l.units ≡ map (pooled_unit l.fleet) (range_with_len 0 l.k)

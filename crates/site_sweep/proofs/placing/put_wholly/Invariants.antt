use Rattle.site_sweep.proofs.PlacedTables.{IsPlacedTo}
use Rattle.site_sweep.proofs.placing.put_wholly.Given as goal

abbrev pub invariant-loop-k : goal.invariant-loop-k
invariant-loop-k l = IsPlacedTo l.initial.table l.table l.unit l.atom l.k

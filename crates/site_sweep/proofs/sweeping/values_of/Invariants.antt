use Rattle.std.proofs.Common.{◌*◌}
use Rattle.std.specs.Prelude.{min}
use Rattle.hyper_model.specs.Plans.{atoms}
use Rattle.site_sweep.specs.Sites.{AreValuesOf, placed_from}
use Rattle.site_sweep.proofs.sweeping.values_of.Given as goal

abbrev pub invariant-loop-batch : goal.invariant-loop-batch
invariant-loop-batch g l = AreValuesOf l.measure (placed_from l.plan l.unit 0 (min (l.batch * 16) (atoms l.plan))) l.values.items

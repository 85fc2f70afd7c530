use Rattle.std.proofs.Common.{arith}
use Rattle.hyper_model.proofs.Ranges.{list_more}
use Rattle.day_replay.specs.Fleets as spec
use Rattle.day_replay.proofs.Counting.{day_short}
use Rattle.day_replay.proofs.busy_times.busy_times.Goals as goal

pub busy_time-requires-clause-few : goal.busy_time-requires-clause-few
busy_time-requires-clause-few c = day_short c.args.plan.now c.args.day.now c.requires.form

pub loop-unit-preserved : goal.loop-unit-preserved
loop-unit-preserved c =
    list_more (spec.busy_time c.args.day.now c.args.words.now) c.loop-unit.times.items c.push.new.self.items c.loop-unit.unit
    c.busy_time.result c.loop-unit.invariant c.busy_time.ensures c.in_ok-push.ensures.items

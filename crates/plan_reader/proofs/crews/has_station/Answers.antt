use Rattle.std.proofs.Common.{◌∙◌, sym}
use Rattle.plan_reader.proofs.CrewCounts.{found_at, missed_at}
use Rattle.plan_reader.proofs.crews.has_station.Goals as goal

pub returns-then-eq : goal.returns-then-eq
returns-then-eq c =
    sym (found_at c.args.stations.now c.args.name.now c.loop-k.k c.get.result.now c.get.ensures (sym c.eq.ensures ∙ c.if-eq.true))
    ∙ c.loop-k.invariant

pub loop-k-preserved : goal.loop-k-preserved
loop-k-preserved c =
    sym (missed_at c.args.stations.now c.args.name.now c.loop-k.k c.get.result.now c.get.ensures (sym c.eq.ensures ∙ c.if-eq.false))
    ∙ c.loop-k.invariant

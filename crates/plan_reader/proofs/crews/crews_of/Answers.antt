use Rattle.std.proofs.Common.{◌∙◌, ◌++◌, ◌∷◌, [], ap₂, sym}
use Rattle.plan_reader.proofs.CrewCounts.{crews_in-more}
use Rattle.plan_reader.proofs.crews.crews_of.Goals as goal

pub loop-k-preserved : goal.loop-k-preserved
loop-k-preserved c =
    c.push.ensures ∙ ap₂ (λ xs x. xs ++ x ∷ []) c.loop-k.invariant c.crews_given.ensures
    ∙ sym (crews_in-more c.args.stations.now c.args.records.now c.loop-k.k c.get.result.now c.get.ensures)
